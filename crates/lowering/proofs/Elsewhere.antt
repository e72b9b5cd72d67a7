-- In mode 2 every instruction but Half and Divide into Temp is stable mode's.
use Prim.Native.Nat.{ℕ}
use mathlib.Core.Path.{◌≡◌, refl, ap}
use mathlib.Core.Bool.{Bool, true, false, ◌&&◌, true≢false}
use mathlib.Core.List.{◌++◌}
use lib.Dec.{eqb}
use Rattle.mir.specs.declared.ops.UniOp.{UniOp}
use Rattle.mir.specs.declared.ops.BinOp.{BinOp}
use Rattle.mir.specs.declared.ops.ArithOp.{ArithOp}
use Rattle.mir.specs.declared.records.Instruction.{Instruction}
use Rattle.mir.specs.Register.{Temp}
use Rattle.sheet.specs.declared.setup.Mode.{Mode}
use Rattle.lowering.specs.Realness.{is_real_reg}
use Rattle.lowering.specs.Complexifier as c
use Rattle.lowering.specs.Complexifier.{State, Out, then}
use Rattle.lowering.specs.Rerun.{rerun_uni, rerun_bin, rerun_arith, rerun}
use Rattle.lowering.specs.Lower.{is_divide}
use Rattle.lowering.specs.Elsewhere.{minded, ElsewhereStable}

divide_same : (d a b : ℕ) (s : State) → eqb d Temp ≡ false → c.divide Mode.Minding d a b s ≡ c.divide Mode.Stable d a b s
unfolding c.divide c.divide_by c.minding_divide
divide_same d a b s e = go (is_real_reg s.real a) (is_real_reg s.real b)
  where
    go : (x y : Bool) → c.divide_by Mode.Minding x y d a b s ≡ c.divide_by Mode.Stable x y d a b s
    go x true = refl
    go x false = ap (λ t. c.minding_divide t x d a b s) e

uni_same : (op : UniOp) (d a : ℕ) (s : State) → minded (Instruction.Uni op d a) ≡ false → rerun_uni Mode.Minding op d a s ≡ rerun_uni Mode.Stable op d a s
unfolding rerun_uni
uni_same UniOp.Neg d a s e = refl
uni_same UniOp.Not d a s e = refl
uni_same UniOp.Abs d a s e = refl
uni_same UniOp.Root d a s e = refl
uni_same UniOp.RealRoot d a s e = refl
uni_same UniOp.Recip d a s e = refl
uni_same UniOp.Round d a s e = refl
uni_same UniOp.Floor d a s e = refl
uni_same UniOp.Ceiling d a s e = refl
uni_same UniOp.Trunc d a s e = refl
uni_same UniOp.Real d a s e = refl
uni_same UniOp.Imaginary d a s e = refl
uni_same UniOp.Conjugate d a s e = refl
uni_same UniOp.Half d a s e = absurd (true≢false e)
uni_same UniOp.IsZero d a s e = refl
uni_same UniOp.IsNotZero d a s e = refl
uni_same UniOp.Sign d a s e = refl
uni_same UniOp.Abs2 d a s e = refl
uni_same UniOp.TimesI d a s e = refl
uni_same UniOp.TimesNegI d a s e = refl

bin_same : (op : BinOp) (d a b : ℕ) (s : State) → minded (Instruction.Bi op d a b) ≡ false → rerun_bin Mode.Minding op d a b s ≡ rerun_bin Mode.Stable op d a b s
unfolding rerun_bin
bin_same BinOp.Plus d a b s e = refl
bin_same BinOp.Minus d a b s e = refl
bin_same BinOp.Times d a b s e = refl
bin_same BinOp.Divide d a b s e = divide_same d a b s e
bin_same BinOp.GreaterThan d a b s e = refl
bin_same BinOp.GreaterThanEqual d a b s e = refl
bin_same BinOp.LittleThan d a b s e = refl
bin_same BinOp.LittleThanEqual d a b s e = refl
bin_same BinOp.Equal d a b s e = refl
bin_same BinOp.NotEqual d a b s e = refl
bin_same BinOp.And d a b s e = refl
bin_same BinOp.AndNot d a b s e = refl
bin_same BinOp.Or d a b s e = refl
bin_same BinOp.Xor d a b s e = refl
bin_same BinOp.Complex d a b s e = refl

arith_same : (op : ArithOp) (d a b : ℕ) (s : State) → is_divide op && eqb d Temp ≡ false → rerun_arith Mode.Minding op d a b s ≡ rerun_arith Mode.Stable op d a b s
unfolding rerun_arith
arith_same ArithOp.Plus d a b s e = refl
arith_same ArithOp.Minus d a b s e = refl
arith_same ArithOp.Times d a b s e = refl
arith_same ArithOp.Divide d a b s e = divide_same d a b s e

-- what `then` makes of two outcomes
behind : Out → Out → Out
behind o q = record { records = o.records ++ q.records; after = q.after }

pub elsewhere-stable : ElsewhereStable minded
unfolding rerun then behind
elsewhere-stable Instruction.Nop s e = refl
elsewhere-stable (Instruction.Uni op d a) s e = uni_same op d a s e
elsewhere-stable (Instruction.Bi op d a b) s e = bin_same op d a b s e
elsewhere-stable (Instruction.Mov d a) s e = refl
elsewhere-stable (Instruction.Load d p) s e = refl
elsewhere-stable (Instruction.Save a p) s e = refl
elsewhere-stable (Instruction.LoadConst d i) s e = refl
elsewhere-stable (Instruction.Fused op d a b k) s e = refl
elsewhere-stable (Instruction.IfElse d a b p) s e = refl
elsewhere-stable (Instruction.LoadMath op d a p) s e = ap (behind (c.load_from Temp p s)) (arith_same op d a Temp (c.load_from Temp p s).after e)
elsewhere-stable (Instruction.LoadConstMath op d a i) s e = ap (behind (c.load_const Temp i s)) (arith_same op d a Temp (c.load_const Temp i s).after e)
elsewhere-stable (Instruction.Label l) s e = refl
elsewhere-stable (Instruction.Branch l) s e = refl
elsewhere-stable (Instruction.BranchIf k l x) s e = refl
