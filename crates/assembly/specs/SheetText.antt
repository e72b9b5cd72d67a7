-- The text of a sheet.
use Rattle.std.specs.Prelude.{ℕ, zero, suc, ◌≡◌, cond, List, [], ◌∷◌, ◌++◌, length, drop, eqb}
use Rattle.mir.specs.declared.records.Instruction.{Instruction}
use Rattle.mir.specs.Decode.{Decoded}
use Rattle.sheet.specs.Setup.{Setup, setup, constants_of}
use Rattle.sheet.specs.Instruction.{instructions}
use Rattle.lowering.specs.Realness.{bit_at}
use Rattle.reports.specs.Lines.{refusal_line}
use Rattle.assembly.specs.Lines.{mode_line, real_line, constant_line, instruction_line}

-- the line of each place recorded as real, of n from the one with bit i on
unfoldable pub real_lines : List ℕ → ℕ → ℕ → List ℕ
real_lines places zero i = []
real_lines places (suc n) i = cond (bit_at places i) (real_line i) [] ++ real_lines places n (suc i)

unfoldable pub constant_lines : List ℕ → List ℕ
constant_lines [] = []
constant_lines (w ∷ ws) = constant_line w ++ constant_lines ws

unfoldable pub instruction_lines : List Instruction → List ℕ
instruction_lines [] = []
instruction_lines (i ∷ is) = instruction_line i ++ instruction_lines is

-- the instructions of a sheet, by its setup
abbrev pub of_setup : List ℕ → Setup → Decoded Instruction
of_setup sheet s = instructions s.count (drop s.start sheet)

-- the number that refuses a sheet before it is lowered (0: none does): 8, or an instruction's
abbrev pub fault : List ℕ → ℕ
fault sheet = cond (eqb (setup sheet).number 0) (of_setup sheet (setup sheet)).fault 8

-- a sheet that is read to its end
abbrev pub Readable : List ℕ → Type 0
Readable sheet = fault sheet ≡ 0

-- mode, real places, constants, instructions
abbrev pub lines_of : List ℕ → Setup → List ℕ
lines_of sheet s =
    mode_line s.mode
    ++ real_lines s.places 512 0
    ++ constant_lines (constants_of sheet s.count)
    ++ instruction_lines (of_setup sheet s).items

unfoldable pub sheet_text : List ℕ → List ℕ
sheet_text sheet = lines_of sheet (setup sheet)

-- what is printed for any sheet: its text, or the refusal with the index of the instruction
unfoldable pub printed_text : List ℕ → List ℕ
printed_text sheet =
    cond (eqb (setup sheet).number 0)
    (cond (eqb (of_setup sheet (setup sheet)).fault 0)
    (sheet_text sheet)
    (refusal_line (of_setup sheet (setup sheet)).fault (length (of_setup sheet (setup sheet)).items)))
    (refusal_line 8 0)
