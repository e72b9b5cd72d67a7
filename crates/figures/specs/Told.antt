-- The figures equal what lowering and playing report (document 02, b).
use Rattle.std.specs.Prelude.{ℕ, ◌+◌, ◌≡◌, List, [], ◌∷◌, length}
use Rattle.mir.specs.declared.records.Instruction.{Instruction}
use Rattle.records.specs.Record.{records}
use Rattle.lowering.specs.Labels.{role}
use Rattle.player_machine.specs.Machine.{Store}
use Rattle.player_machine.specs.Count.{most}
use Rattle.player_machine.specs.Answer as Playing
use Rattle.complexify.specs.Entry as Lowering
use Rattle.entries.specs.Entries.{left}
use Rattle.figures.specs.declared.entry.Figures.{Figures}
use Rattle.leftovers.specs.Leftovers.{sheet_of}
use Rattle.figures.specs.Shelf.{branch_of, refusal}

-- the Branches and BranchIfs of a sheet
abbrev pub branches_in : List Instruction → ℕ
branches_in [] = 0
branches_in (i ∷ is) = branch_of (role i) + branches_in is

-- lowering with 65,536 bytes, and playing what it left from record 0 on any store; with document 02, d) "for a sheet with a Branch or
-- BranchIf the shelf figures of b) give that bound in place of the records run"
pub record Reported (f : Figures) (sheet listing constants origins : List ℕ) : Type 0 where
  pub number : (Lowering.answer sheet listing constants origins).number ≡ f.number
  pub index : (Lowering.answer sheet listing constants origins).index ≡ f.index
  pub bytes : f.number ≡ 0 → (Lowering.answer sheet listing constants origins).written ≡ f.bytes
  pub count : f.number ≡ 0 → (Lowering.answer sheet listing constants origins).count ≡ f.constants
  pub played : f.number ≡ 0 → branches_in (sheet_of sheet).instructions ≡ 0 → (σ : Store) → length σ ≡ 1602
      → let l = left sheet listing constants origins in (Playing.answer l.listing l.constants 0 σ).played ≡ f.records
  pub bound : f.number ≡ 0 → (branches_in (sheet_of sheet).instructions ≡ 0 → ⊥)
      → let l = left sheet listing constants origins in most (records (length l.constants) l.listing).items ≡ f.records
  pub none : (f.number ≡ 0 → ⊥) → f ≡ refusal f.number f.index

-- for every sheet, and whatever the slices lent hold (theorem `figures`)
abbrev pub FiguresReported : (List ℕ → Figures) → Type 0
FiguresReported shelf =
    (sheet listing constants origins : List ℕ) → length listing ≡ 65536 → length constants ≡ 256 → length origins ≡ 256
    → Reported (shelf sheet) sheet listing constants origins
