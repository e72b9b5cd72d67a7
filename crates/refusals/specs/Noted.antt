-- What lowering keeps of a sheet's labels, in two tables by number: a mark, and a row of 96 bytes.
use Rattle.std.specs.Prelude.{ℕ, ◌+◌, ◌*◌, ◌≤◌, ◌<◌, ◌≡◌, Bool, true, false, not, cond, ◌||◌, List, [], ◌∷◌, length, get_or, set, ltb, eqb}
use Rattle.std.proofs.Math.Option.{Option, none, some}
use Rattle.mir.specs.declared.records.Instruction.{Instruction}
use Rattle.mir.specs.Read.{Read, got, refused}
use Rattle.mir.specs.Field.{byte_at, bytes_at, u16_at}
use Rattle.mir.specs.Decode.{decoded}
use Rattle.words.specs.Bytes.{stored}
use Rattle.sheet.specs.Instruction.{fields_from, instruction_from}
use Rattle.lowering.specs.declared.realness.Realness.{Realness}
use Rattle.lowering.specs.RecordBytes.{record_bytes}
use Rattle.lowering.specs.Labels as Labels
use Rattle.lowering.specs.Labels.{Role, role, Standing, label_seen, later, stands, bytes_same, differs}

-- the label in a record's bytes, where it is a Label
abbrev pub label_here : List ℕ → Option ℕ
label_here s = cond (eqb (u16_at s 2) 14) (some (byte_at s 4)) none

abbrev pub row : ℕ → List ℕ → List ℕ
row l rows = bytes_at rows (96 * l) 96

-- The marks: 0, no such label stands ahead; 1, one does, and no branch to it stands before; 2, branches to it do, all with the records in
-- its row; 3, with unlike records; 4, it stood itself. Do records differ from those at a branch to it?
abbrev pub unlike : ℕ → List ℕ → Realness → Bool
unlike mark bytes ρ = cond (eqb mark 2) (not (bytes_same bytes (record_bytes ρ))) (ltb 2 mark)

-- the tables, where b stand before an instruction and `rest` are the sheet's bytes from it on
pub record Noted (b : Standing) (rest marks rows : List ℕ) : Type 0 where
  pub long : length marks ≡ 256
  pub room : (l : ℕ) → 0 < get_or marks l 0 → 96 * l + 96 ≤ length rows
  pub stood : (l : ℕ) → stands l b.labels ≡ eqb (get_or marks l 0) 4
  pub ahead : (l : ℕ) → stands l b.labels ≡ false → later l rest ≡ ltb 0 (get_or marks l 0)
  pub differ : (l : ℕ) (ρ : Realness) → length ρ.regs ≡ 32 → stands l b.labels ≡ false
      → differs l ρ b.branches ≡ unlike (get_or marks l 0) (row l rows) ρ

-- ---- what is done with them

-- looking ahead marks each label that it sees
abbrev pub seen_in : List ℕ → List (Option ℕ)
seen_in rest = (decoded label_seen rest).items

abbrev pub mark_seen : Option ℕ → List ℕ → List ℕ
mark_seen none marks = marks
mark_seen (some l) marks = set marks l 1

abbrev pub mark_all : List (Option ℕ) → List ℕ → List ℕ
mark_all [] marks = marks
mark_all (o ∷ os) marks = mark_all os (mark_seen o marks)

-- is there one?
abbrev pub is_label : Option ℕ → Bool
is_label none = false
is_label (some l) = true

abbrev pub any_label : List (Option ℕ) → Bool
any_label [] = false
any_label (o ∷ os) = is_label o || any_label os

-- the role of an instruction that is read; one that is refused as it is read has none
abbrev pub role_read : Read Instruction → Role
role_read (got i) = role i
role_read (refused n) = Labels.works

-- what they tell of an instruction with a role, where the records are ρ: 10, 11, or 0, neither
abbrev pub tell : Role → Realness → List ℕ → List ℕ → ℕ
tell Labels.works ρ marks rows = 0
tell (Labels.labels l) ρ marks rows = cond (eqb (get_or marks l 0) 4) 10 (cond (unlike (get_or marks l 0) (row l rows) ρ) 11 0)
tell (Labels.branches l) ρ marks rows = cond (eqb (get_or marks l 0) 0 || eqb (get_or marks l 0) 4) 10 0

-- the mark of a label that stands ahead, behind a branch to it; `same`: its row holds the records there
abbrev pub mark_behind : ℕ → Bool → ℕ
mark_behind mark same = cond (eqb mark 1) 2 (cond (eqb mark 2) (cond same 2 3) mark)

-- the tables behind an instruction that neither refuses
abbrev pub marks_behind : Role → Realness → List ℕ → List ℕ → List ℕ
marks_behind Labels.works ρ marks rows = marks
marks_behind (Labels.labels l) ρ marks rows = set marks l 4
marks_behind (Labels.branches l) ρ marks rows = set marks l (mark_behind (get_or marks l 0) (bytes_same (row l rows) (record_bytes ρ)))

abbrev pub rows_behind : Role → Realness → List ℕ → List ℕ → List ℕ
rows_behind Labels.works ρ marks rows = rows
rows_behind (Labels.labels l) ρ marks rows = rows
rows_behind (Labels.branches l) ρ marks rows = cond (eqb (get_or marks l 0) 1) (stored rows (96 * l) (record_bytes ρ)) rows

-- an instruction passed, or refused by n: then the tables are as they were; the records are of 32 registers and 64 bytes of places
pub record Passed (i : Role) (ρ : Realness) (marks rows marks' rows' : List ℕ) (n : ℕ) : Type 0 where
  pub full : length ρ.regs ≡ 32
  pub wide : length ρ.places ≡ 64
  pub told : n ≡ tell i ρ marks rows
  pub marked : marks' ≡ cond (eqb n 0) (marks_behind i ρ marks rows) marks
  pub kept : rows' ≡ cond (eqb n 0) (rows_behind i ρ marks rows) rows

-- the same of a record by its kind and its bytes, and of the instruction that bytes begin with, whatever the count of the sheet's constants
abbrev pub PassedKind : ℕ → List ℕ → Realness → List ℕ → List ℕ → List ℕ → List ℕ → ℕ → Type 0
PassedKind kind s ρ marks rows marks' rows' n = (count : ℕ) → Passed (role_read (fields_from count kind s)) ρ marks rows marks' rows' n

abbrev pub PassedFirst : List ℕ → Realness → List ℕ → List ℕ → List ℕ → List ℕ → ℕ → Type 0
PassedFirst rest ρ marks rows marks' rows' n = (count : ℕ) → Passed (role_read (instruction_from count rest)) ρ marks rows marks' rows' n

pub record BranchNoted (l : ℕ) (bytes marks rows marks' rows' : List ℕ) : Type 0 where
  pub mark : marks' ≡ set marks l (mark_behind (get_or marks l 0) (bytes_same (row l rows) bytes))
  pub kept : rows' ≡ cond (eqb (get_or marks l 0) 1) (stored rows (96 * l) bytes) rows
