-- Sheets and their marks: one without a mark, with stores that differ in every register; one whose marked registers tell two plays apart; and
-- short ones with the numbers of their marks, typed by hand from document 02's sentences and computed.
use Rattle.std.specs.Prelude.{ℕ, ◌≤◌, ◌<◌, ◌≡◌, refl, false, List, [], ◌∷◌, ◌++◌, map, replicate, set}
use Rattle.mir.specs.Register.{re, im}
use Rattle.mir.specs.Length.{length_of}
use Rattle.mir.specs.Operation.{uni_ops}
use Rattle.mir.specs.Field.{u16_at, takes_kind, place_at, save_place}
use Rattle.mir.specs.Encode.{record_of}
use Rattle.mir.specs.Decode.{decoded}
use Rattle.sheet.specs.Setup.{setup, constant_at}
use Rattle.sheet.specs.Instruction.{instruction_from}
use Rattle.player_machine.specs.Machine.{Store, at, works, is_label, seek, block}
use Rattle.lowering.specs.Realness.{is_real_loc, without_loc}
use Rattle.lowering.specs.Lines as lines
use Rattle.lowering.specs.Complexifier as c
use Rattle.lowering.specs.Rerun.{rerun_uni, rerun, complexify}
use Rattle.lowering.specs.Labels.{role, later, misplaced, unequal, passed}
use Rattle.lowering.specs.Lower.{barred, lower_from, lower_sheet, listed}
use Rattle.complexify.specs.Entry.{answer}
use Rattle.leftovers.specs.Examples.{header}
use Rattle.marks.specs.Marks.{step, scan}
use Rattle.marks.specs.Claims.{SamePlaces}
use Rattle.marks.specs.Examples.{numbers}
use Rattle.entries.specs.Examples.{bytes, words, names}
use Rattle.entries.specs.Drawn.{play_left}

-- the bytes of instructions: Uni by the operation's number, Load and Save by the index of a place in Mem, and those with labels
abbrev uni : ℕ → ℕ → ℕ → List ℕ
uni op dst s1 = 7 ∷ 0 ∷ 1 ∷ 0 ∷ op ∷ dst ∷ s1 ∷ []

abbrev root : ℕ → ℕ → List ℕ
root dst s1 = uni 3 dst s1

abbrev load : ℕ → ℕ → List ℕ
load dst index = 8 ∷ 0 ∷ 4 ∷ 0 ∷ dst ∷ 1 ∷ index ∷ 0 ∷ []

abbrev save : ℕ → ℕ → List ℕ
save src index = 8 ∷ 0 ∷ 5 ∷ 0 ∷ src ∷ 1 ∷ index ∷ 0 ∷ []

abbrev label : ℕ → List ℕ
label l = 5 ∷ 0 ∷ 14 ∷ 0 ∷ l ∷ []

abbrev branch_if : ℕ → ℕ → List ℕ
branch_if cond l = 7 ∷ 0 ∷ 17 ∷ 0 ∷ cond ∷ l ∷ 0 ∷ []

abbrev branch : ℕ → List ℕ
branch l = 5 ∷ 0 ∷ 15 ∷ 0 ∷ l ∷ []

abbrev load_const : ℕ → List ℕ
load_const dst = 7 ∷ 0 ∷ 6 ∷ 0 ∷ dst ∷ 0 ∷ 0 ∷ []

-- a constant, which stands before the instructions
abbrev constant : List ℕ
constant = 12 ∷ 0 ∷ 33 ∷ 0 ∷ replicate 8 0

-- Load of Mem 0 into general 0 and of Mem 1 into general 1; where general 0 is zero, Root of general 0 into general 1; Save of general 1 to
-- Mem 2
unfoldable pub filling : List ℕ
unfolding header
filling = header ++ (load 0 0 ++ (load 1 1 ++ (branch_if 0 3 ++ (root 1 0 ++ (label 3 ++ save 1 2)))))

-- Save of general 0 to Mem 0
unfoldable pub drawing : List ℕ
unfolding header
drawing = header ++ save 0 0

-- a store with one word in every register, and zeros in all places
unfoldable pub filled_with : ℕ → Store
filled_with v = replicate 66 v ++ replicate 1536 0

-- `lower` accepts the sheet and sets no mark, and two stores agree in all places and in no register (theorem `undrawn`)
pub record Undrawn (sheet : List ℕ) (σ τ : Store) : Type 0 where
  pub accepted : (answer sheet bytes words names).number ≡ 0
  pub unmarked : (answer sheet bytes words names).drawn ≡ replicate 66 false
  pub places : SamePlaces σ τ
  pub registers : (i : ℕ) → i < 66 → at σ i ≡ at τ i → ⊥

-- `lower` accepts the sheet, of which no register is filled and two are drawn on, and of two stores that agree in all places the plays end
-- with other words at index i (theorem `drawn_apart`)
pub record DrawnApart (sheet : List ℕ) (σ τ : Store) (i : ℕ) : Type 0 where
  pub accepted : (answer sheet bytes words names).number ≡ 0
  pub unfilled : (answer sheet bytes words names).filled ≡ replicate 66 false
  pub marked : numbers 0 (answer sheet bytes words names).drawn ≡ 4 ∷ 5 ∷ []
  pub places : SamePlaces σ τ
  pub place : 66 ≤ i
  pub apart : at (play_left sheet bytes words names σ).store i ≡ at (play_left sheet bytes words names τ).store i → ⊥

-- ---- short sheets

-- a sheet, and the numbers of the marks that `lower` answers with
abbrev rows : List (List ℕ × List ℕ)
rows =
    -- Root of Temp moves Temp to itself before its Call: a record draws before it fills
    (header ++ root 0 31, 0 ∷ 1 ∷ [])
    -- plain Half of a real register draws on the imaginary half, which nothing has filled
    ∷ (header ++ (constant ++ (load_const 0 ++ uni 13 0 0)), 5 ∷ [])
    -- and in mode 2 it does not
    ∷ (set (header ++ (constant ++ (load_const 0 ++ uni 13 0 0))) 4 2, [])
    -- "the record after a Branch to such a label is taken as reached from it"
    ∷ (header ++ (branch 3 ++ (save 0 1 ++ label 3)), 4 ∷ 5 ∷ [])
    -- BranchIf draws on the real half of its condition
    ∷ (header ++ (branch_if 0 3 ++ label 3), 4 ∷ [])
    -- "on refusal, those of the instructions before": nothing of the second, whose register is above 31
    ∷ (header ++ (save 0 1 ++ save 32 1), 4 ∷ 5 ∷ [])
    ∷ []

pub holds : map (λ row. numbers 0 (answer row.0 bytes words names).drawn) rows ≡ map (λ row. row.1) rows
unfolding header bytes words names lower_sheet listed setup constant_at u16_at lower_from role later misplaced unequal passed barred decoded instruction_from takes_kind length_of place_at save_place uni_ops rerun rerun_uni complexify record_of re im is_real_loc without_loc c.then c.unlisted c.directed c.emit c.one_by_one c.by_two c.fmov c.load_from c.load_const c.save_to c.half c.call_root c.block_of c.block_consts c.define_root c.root lines.fmov_lines lines.load_lines lines.save_lines lines.half_lines lines.minding_half_lines lines.plain_root_magnitude lines.root_block step scan block seek is_label works
holds = refl
