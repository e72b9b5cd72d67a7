-- mir.rs's `rerun`: which method an instruction of a sheet calls; m is the mode.
use Rattle.std.specs.Prelude.{ℕ, cond, List, [], ◌∷◌, eqb}
use Rattle.mir.specs.declared.ops.UniOp.{UniOp}
use Rattle.mir.specs.declared.ops.BinOp.{BinOp}
use Rattle.mir.specs.declared.ops.ArithOp.{ArithOp}
use Rattle.mir.specs.declared.ops.FusedOp.{FusedOp}
use Rattle.mir.specs.declared.records.Instruction.{Instruction}
use Rattle.mir.specs.Register.{Temp}
use Rattle.sheet.specs.declared.setup.Mode.{Mode}
use Rattle.sheet.specs.Setup.{is_stable}
use Rattle.lowering.specs.Lines.{each_lines, abs2_lines, timesILines, timesNegILines, real_lines, imaginary_lines, conjugate_lines}
use Rattle.lowering.specs.Lines.{complex_lines, order_lines, not_lines}
use Rattle.lowering.specs.Complexifier as c
use Rattle.lowering.specs.Complexifier.{State, Out, then, unlisted, one_by_one, by_two, copied, as_real, as_complex, both_as_real, both_as_complex}

-- IsZero, IsNotZero of `rerun_uniop`: Temp is made zero, then `eq` or `neq` with it
abbrev pub compare_zero : BinOp → BinOp → ℕ → ℕ → State → Out
compare_zero op join d a s = then (c.bits BinOp.Xor Temp Temp Temp s) (c.compare op join d a Temp)

-- `rerun_uniop`
unfoldable pub rerun_uni : Mode → UniOp → ℕ → ℕ → State → Out
rerun_uni m UniOp.Neg d a s = one_by_one (each_lines UniOp.Neg) copied d a s
rerun_uni m UniOp.Not d a s = one_by_one not_lines as_real d a s
rerun_uni m UniOp.Abs d a s = c.abs (is_stable m) d a s
rerun_uni m UniOp.Root d a s = c.root (is_stable m) d a s
rerun_uni m UniOp.RealRoot d a s = c.real_root (is_stable m) d a s
rerun_uni m UniOp.Recip d a s = c.recip (is_stable m) d a s
rerun_uni m UniOp.Round d a s = one_by_one (each_lines UniOp.Round) copied d a s
rerun_uni m UniOp.Floor d a s = one_by_one (each_lines UniOp.Floor) copied d a s
rerun_uni m UniOp.Ceiling d a s = one_by_one (each_lines UniOp.Ceiling) copied d a s
rerun_uni m UniOp.Trunc d a s = one_by_one (each_lines UniOp.Trunc) copied d a s
rerun_uni m UniOp.Real d a s = one_by_one real_lines as_real d a s
rerun_uni m UniOp.Imaginary d a s = one_by_one imaginary_lines as_real d a s
rerun_uni m UniOp.Conjugate d a s = one_by_one conjugate_lines copied d a s
rerun_uni m UniOp.Half d a s = c.half m d a s
rerun_uni m UniOp.IsZero d a s = compare_zero BinOp.Equal BinOp.And d a s
rerun_uni m UniOp.IsNotZero d a s = compare_zero BinOp.NotEqual BinOp.Or d a s
rerun_uni m UniOp.Sign d a s = one_by_one (each_lines UniOp.Sign) copied d a s
rerun_uni m UniOp.Abs2 d a s = one_by_one abs2_lines copied d a s
rerun_uni m UniOp.TimesI d a s = one_by_one timesILines as_complex d a s
rerun_uni m UniOp.TimesNegI d a s = one_by_one timesNegILines as_complex d a s

-- `rerun_binop`; a sheet takes no AndNot
unfoldable pub rerun_bin : Mode → BinOp → ℕ → ℕ → ℕ → State → Out
rerun_bin m BinOp.Plus d a b s = c.plus d a b s
rerun_bin m BinOp.Minus d a b s = c.minus d a b s
rerun_bin m BinOp.Times d a b s = c.times d a b s
rerun_bin m BinOp.Divide d a b s = c.divide m d a b s
rerun_bin m BinOp.GreaterThan d a b s = by_two (order_lines BinOp.GreaterThan) both_as_real d a b s
rerun_bin m BinOp.GreaterThanEqual d a b s = by_two (order_lines BinOp.GreaterThanEqual) both_as_real d a b s
rerun_bin m BinOp.LittleThan d a b s = by_two (order_lines BinOp.LittleThan) both_as_real d a b s
rerun_bin m BinOp.LittleThanEqual d a b s = by_two (order_lines BinOp.LittleThanEqual) both_as_real d a b s
rerun_bin m BinOp.Equal d a b s = c.compare BinOp.Equal BinOp.And d a b s
rerun_bin m BinOp.NotEqual d a b s = c.compare BinOp.NotEqual BinOp.Or d a b s
rerun_bin m BinOp.And d a b s = c.bits BinOp.And d a b s
rerun_bin m BinOp.AndNot d a b s = unlisted s
rerun_bin m BinOp.Or d a b s = c.bits BinOp.Or d a b s
rerun_bin m BinOp.Xor d a b s = c.bits BinOp.Xor d a b s
rerun_bin m BinOp.Complex d a b s = by_two complex_lines both_as_complex d a b s

-- the match on `FusedOp`
unfoldable pub rerun_fused : FusedOp → ℕ → ℕ → ℕ → ℕ → State → Out
rerun_fused FusedOp.MulAdd d a b k s = c.fused_mul_add d a b k s
rerun_fused FusedOp.MulSub d a b k s = c.fused_mul_sub d a b k s
rerun_fused FusedOp.NegMulAdd d a b k s = c.fused_neg_mul_add d a b k s
rerun_fused FusedOp.NegMulSub d a b k s = c.fused_neg_mul_sub d a b k s

-- the match on `ArithOp` of LoadMath and LoadConstMath
unfoldable pub rerun_arith : Mode → ArithOp → ℕ → ℕ → ℕ → State → Out
rerun_arith m ArithOp.Plus d a b s = c.plus d a b s
rerun_arith m ArithOp.Minus d a b s = c.minus d a b s
rerun_arith m ArithOp.Times d a b s = c.times d a b s
rerun_arith m ArithOp.Divide d a b s = c.divide m d a b s

-- one turn of `rerun`
unfoldable pub rerun : Mode → Instruction → State → Out
rerun m Instruction.Nop s = unlisted s
rerun m (Instruction.Uni op d a) s = rerun_uni m op d a s
rerun m (Instruction.Bi op d a b) s = rerun_bin m op d a b s
rerun m (Instruction.Mov d a) s = cond (eqb d a) (unlisted s) (c.fmov d a s)
rerun m (Instruction.Load d p) s = c.load_from d p s
rerun m (Instruction.Save a p) s = c.save_to a p s
rerun m (Instruction.LoadConst d idx) s = c.load_const d idx s
rerun m (Instruction.Fused op d a b k) s = rerun_fused op d a b k s
rerun m (Instruction.IfElse d a b p) s = c.ifelse d a b p s
rerun m (Instruction.LoadMath op d a p) s = then (c.load_from Temp p s) (rerun_arith m op d a Temp)
rerun m (Instruction.LoadConstMath op d a idx) s = then (c.load_const Temp idx s) (rerun_arith m op d a Temp)
rerun m (Instruction.Label l) s = c.set_label l s
rerun m (Instruction.Branch l) s = c.branch l s
rerun m (Instruction.BranchIf k l e) s = c.branch_if k l e s

-- `complexify`: all turns, one after the other
unfoldable pub complexify : Mode → List Instruction → State → Out
complexify m [] s = unlisted s
complexify m (i ∷ is) s = then (rerun m i s) (complexify m is)
