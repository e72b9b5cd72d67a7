-- How the program makes a sheet: in lent bytes, at whose front the sheet's stand. What the code keeps, as the definitions' own.
use Rattle.std.specs.Prelude.{ℕ, ◌+◌, ◌*◌, ◌/◌, ◌%◌, ◌≤◌, ◌≡◌, cond, Option, None, Some, List, eqb, length, take}
use Rattle.mir.specs.declared.records.Loc.{Loc}
use Rattle.mir.specs.Read.{Read, got, refused}
use Rattle.text.specs.declared.line.Line.{Line}
use Rattle.text.specs.Line.{empty_line, add_all}
use Rattle.assembly.specs.declared.reading.LineRead.{LineRead}
use Rattle.assembly.specs.declared.making.Made.{Made}
use Rattle.assembly.specs.declared.making.MakeAnswer.{MakeAnswer}
use Rattle.assembly.specs.Assembled.{LineKind, mode, real, constant_line, instruction, Reading, Draft, bit_of, opened, with_line}
use Rattle.assembly.specs.Assembled.{Assembled, accepted, refused_at}

-- what a line is, by the number of its first word
abbrev pub part_of : ℕ → LineKind
part_of n = cond (eqb n 0) mode (cond (eqb n 1) real (cond (eqb n 2) constant_line instruction))

-- a line that was read: what it is, and its bytes
pub record Told : Type 0 where
  pub part : LineKind
  pub line : Line

-- a line's bytes with what it is
abbrev pub tagged : LineKind → Line → Read Told
tagged p l = got (record { part = p; line = l })

-- the code's answer, and the definition's reading
abbrev pub as_line : Option LineRead → Read Told
as_line (Some t) = tagged (part_of t.head) t.line
as_line None = refused 3

abbrev pub told : Reading → Read Told
told r = tagged r.part (add_all empty_line r.bytes)

-- the bit of a place that was read
abbrev pub place_bit : Read Loc → Read ℕ
place_bit (got p) = bit_of p
place_bit (refused n) = refused 3

-- a byte with the bit of a power of two set
abbrev pub with_bit : ℕ → ℕ → ℕ
with_bit b p = cond (eqb (b / p % 2) 1) b (b + p)

-- the sheet whose bytes stand at the front of others
abbrev pub sheet_of : Made → List ℕ → Draft
sheet_of m out = record { bytes = take m.len out; count = m.count; instructions = m.instructions; stage = m.stage }

-- the sheet, or why its last line is refused
abbrev pub as_sheet : Made → List ℕ → Read Draft
as_sheet m out = cond (eqb m.why 0) (got (sheet_of m out)) (refused m.why)

-- no sheet, for a reason
abbrev pub refusal : ℕ → Made
refusal why = record { len = 0; count = 0; instructions = 0; stage = 0; why = why }

-- no more constants and instructions than a sheet may have, and a line's bytes are at most 80
pub record Low (m : Made) : Type 0 where
  pub constants : m.count ≤ 251
  pub instructions : m.instructions ≤ 612
  pub bytes : m.len ≤ 144 + 80 * (m.count + m.instructions)

-- there is room for any sheet
abbrev pub Room : Made → List ℕ → Type 0
Room m out = (69184 ≤ length out) × Low m

-- one constant or one instruction more, within the limits
pub record Grows (m : Made) (count instructions : ℕ) : Type 0 where
  pub more : m.count + m.instructions + 1 ≤ count + instructions
  pub constants : count ≤ 251
  pub limit : instructions ≤ 612

-- the answer stands in the bytes
pub record Makes (answer : Read Draft) (m : Made) (out : List ℕ) : Type 0 where
  pub same : as_sheet m out ≡ answer
  pub low : Low m

-- a line that was read, put: the first is the mode
abbrev pub with_read : Draft → LineKind → List ℕ → Read Draft
with_read s p b = cond (eqb s.stage 0) (opened p b) (with_line s p b)

-- the sheet, or its refusal
abbrev pub as_assembled : MakeAnswer → List ℕ → Assembled
as_assembled e out = cond (eqb e.why 0) (accepted (take e.len out)) (refused_at e.line e.why)
