-- Mode 2 is "stable mode, but" (document 02, n): what it lists and records otherwise is named here.
use Rattle.std.specs.Prelude.{◌≡◌, Bool, false, ◌&&◌, [], ◌∷◌, eqb}
use Rattle.mir.specs.declared.ops.UniOp.{UniOp}
use Rattle.mir.specs.declared.ops.BinOp.{BinOp}
use Rattle.mir.specs.declared.records.Instruction.{Instruction}
use Rattle.mir.specs.Operation.{uni_number, bin_number}
use Rattle.mir.specs.Takes.{one_of}
use Rattle.mir.specs.Register.{Temp}
use Rattle.sheet.specs.declared.setup.Mode.{Mode}
use Rattle.lowering.specs.Complexifier.{State}
use Rattle.lowering.specs.Rerun.{rerun}
use Rattle.lowering.specs.Lower.{is_divide}

-- Half, and Divide into Temp. (A LoadMath that divides by a complex place is refused by 6 in both modes.)
abbrev pub minded : Instruction → Bool
minded Instruction.Nop = false
minded (Instruction.Uni op d a) = one_of uni_number op (UniOp.Half ∷ [])
minded (Instruction.Bi op d a b) = one_of bin_number op (BinOp.Divide ∷ []) && eqb d Temp
minded (Instruction.Mov d a) = false
minded (Instruction.Load d p) = false
minded (Instruction.Save a p) = false
minded (Instruction.LoadConst d idx) = false
minded (Instruction.Fused op d a b c) = false
minded (Instruction.IfElse d a b p) = false
minded (Instruction.LoadMath op d a p) = is_divide op && eqb d Temp
minded (Instruction.LoadConstMath op d a idx) = is_divide op && eqb d Temp
minded (Instruction.Label l) = false
minded (Instruction.Branch l) = false
minded (Instruction.BranchIf c l e) = false

-- every other instruction it lists and records as stable mode does (theorem `elsewhere_stable`: but those that are `minded`)
abbrev pub ElsewhereStable : (Instruction → Bool) → Type 0
ElsewhereStable but = (i : Instruction) (s : State) → but i ≡ false → rerun Mode.Minding i s ≡ rerun Mode.Stable i s
