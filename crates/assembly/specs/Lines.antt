-- The lines of a sheet's text: one for the mode, each real place, each constant and each instruction, in the words that `listing` prints.
use Rattle.std.specs.Prelude.{ℕ, ◌-◌, cond, List, [], ◌∷◌, ◌++◌, ltb, eqb}
use Prim.Native.String.{String}
use Rattle.mir.specs.declared.ops.ArithOp.{ArithOp}
use Rattle.mir.specs.Operation.{arith_number}
use Rattle.mir.specs.declared.records.Loc.{Loc}
use Rattle.mir.specs.declared.records.Work.{Work}
use Rattle.mir.specs.declared.records.Record.{Record}
use Rattle.mir.specs.declared.records.Instruction.{Instruction}
use Rattle.sheet.specs.declared.setup.Mode.{Mode}
use Rattle.text.specs.Text.{ascii, decimal, hex, space, place, name_of, registers, line, record_line}

-- the mode: "0 plain, 1 stable", and 2, which minds the record in Half
unfoldable pub mode_line : Mode → List ℕ
mode_line Mode.Plain = ascii "mode plain\n"
mode_line Mode.Stable = ascii "mode stable\n"
mode_line Mode.Minding = ascii "mode minding\n"

-- the place of a bit of a header's realness: Stack, then Param
abbrev pub real_place : ℕ → Loc
real_place i = cond (ltb i 256) (Loc.Stack i) (Loc.Param (i - 256))

unfoldable pub real_line : ℕ → List ℕ
real_line i = line (ascii "real" ++ space (place (real_place i)))

unfoldable pub constant_line : ℕ → List ℕ
constant_line word = line (ascii "constant " ++ hex word)

-- a sheet's register by the number under which a listing has its name: "30 Ret, 31 Temp"
abbrev pub named : ℕ → ℕ
named r = cond (eqb r 30) 64 (cond (eqb r 31) 65 r)

-- the names of LoadMath and LoadConstMath: the operation, with Load or Const added
abbrev pub math_names : List String
math_names = "Plus" ∷ "Minus" ∷ "Times" ∷ "Divide" ∷ []

unfoldable pub math_name : ArithOp → List ℕ
math_name op = name_of math_names (arith_number op)

-- the line of a record that works on words
abbrev pub work_line : Work → List ℕ
work_line w = record_line (Record.Work w)

-- kinds 1 to 8, 14, 15 and 17 as a listing has them; Nop, LoadMath and LoadConstMath are a sheet's alone
unfoldable pub instruction_line : Instruction → List ℕ
instruction_line Instruction.Nop = line (ascii "Nop")
instruction_line (Instruction.Uni op dst s1) = work_line (Work.Uni op (named dst) (named s1))
instruction_line (Instruction.Bi op dst s1 s2) = work_line (Work.Bi op (named dst) (named s1) (named s2))
instruction_line (Instruction.Mov dst s1) = work_line (Work.Mov (named dst) (named s1))
instruction_line (Instruction.Load dst loc) = work_line (Work.Load (named dst) loc)
instruction_line (Instruction.Save src loc) = work_line (Work.Save (named src) loc)
instruction_line (Instruction.LoadConst dst idx) = work_line (Work.LoadConst (named dst) idx)
instruction_line (Instruction.Fused op dst a b c) = work_line (Work.Fused op (named dst) (named a) (named b) (named c))
instruction_line (Instruction.IfElse dst t f loc) = work_line (Work.IfElse (named dst) (named t) (named f) loc)
instruction_line (Instruction.LoadMath op dst s1 loc) =
    line (math_name op ++ ascii "Load" ++ registers (named dst ∷ named s1 ∷ []) ++ space (place loc))
instruction_line (Instruction.LoadConstMath op dst s1 idx) =
    line (math_name op ++ ascii "Const" ++ registers (named dst ∷ named s1 ∷ []) ++ space (decimal idx))
instruction_line (Instruction.Label l) = record_line (Record.Label l)
instruction_line (Instruction.Branch l) = record_line (Record.Branch l)
instruction_line (Instruction.BranchIf c l e) = record_line (Record.BranchIf (named c) l e)

-- why a text is refused, by number: 1, 2, 3 or 4
abbrev pub reasons : List String
reasons = "" ∷ "no mode" ∷ "sheet full" ∷ "no such line" ∷ "sheet too long" ∷ []

-- a text that is no sheet's, by its first line that is not
unfoldable pub refused_text : ℕ → ℕ → List ℕ
refused_text number reason = line (ascii "refused line" ++ space (decimal number) ++ space (name_of reasons reason))

-- a text that is too long to be read
unfoldable pub long_text : List ℕ
long_text = ascii "refused text of more than 500000 bytes\n"
