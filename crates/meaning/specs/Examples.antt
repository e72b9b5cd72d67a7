-- Two sheets, lowered by the entry into slices of zeros and played on a store of zeros: all that the theorems take is given of them.
use Rattle.std.specs.Prelude.{ℕ, suc, ◌≡◌, false, List, [], ◌∷◌, ◌++◌}
use Rattle.mir.specs.declared.records.Loc.{Loc}
use Rattle.player_machine.specs.Machine.{at, place}
use Rattle.complexify.specs.Entry.{answer}
use Rattle.leftovers.specs.Leftovers.{sheet_of, play_on}
use Rattle.leftovers.specs.Examples.{header, zeros}
use Rattle.entries.specs.Examples.{bytes, words, names, left_of}
use Rattle.meaning.specs.Settled.{Unmixed}
use Rattle.meaning.specs.Tidy.{TidySheet}

-- Constants 6 and 1; LoadConst general 0, 6; LoadConst general 1, 1; TimesI 2, 1; Plus 1, 1, 2; Divide 0, 0, 1; Save 0 to Mem 0:
-- 6 / (1 + i) in plain mode
unfoldable pub dividing : List ℕ
unfolding header
dividing =
    header
    ++ 12 ∷ 0 ∷ 33 ∷ 0 ∷ 0 ∷ 0 ∷ 0 ∷ 0 ∷ 0 ∷ 0 ∷ 0x18 ∷ 0x40
    ∷ 12 ∷ 0 ∷ 33 ∷ 0 ∷ 0 ∷ 0 ∷ 0 ∷ 0 ∷ 0 ∷ 0 ∷ 0xf0 ∷ 0x3f
    ∷ 7 ∷ 0 ∷ 6 ∷ 0 ∷ 0 ∷ 0 ∷ 0
    ∷ 7 ∷ 0 ∷ 6 ∷ 0 ∷ 1 ∷ 1 ∷ 0
    ∷ 7 ∷ 0 ∷ 1 ∷ 0 ∷ 18 ∷ 2 ∷ 1
    ∷ 8 ∷ 0 ∷ 2 ∷ 0 ∷ 0 ∷ 1 ∷ 1 ∷ 2
    ∷ 8 ∷ 0 ∷ 2 ∷ 0 ∷ 3 ∷ 0 ∷ 0 ∷ 1
    ∷ 8 ∷ 0 ∷ 5 ∷ 0 ∷ 0 ∷ 1 ∷ 0 ∷ 0 ∷ []

-- the sheet is accepted and tidy, and x + iy is what its play saves to Mem 0 (theorem `tidy_met`: 3 - 3i of `dividing`)
pub record TidyMet (sheet : List ℕ) (x y : ℕ) : Type 0 where
  pub accepted : (answer sheet bytes words names).number ≡ 0
  pub tidy : TidySheet false (sheet_of sheet)
  pub real : at (play_on (left_of sheet) 0 zeros).store (place (Loc.Mem 0)) ≡ x
  pub imaginary : at (play_on (left_of sheet) 0 zeros).store (suc (place (Loc.Mem 0))) ≡ y

-- the sheet is accepted, and no Half of it loses a word (theorem `settled_met`: the Half of `clean`, of demand 3's examples)
pub record SettledMet (sheet : List ℕ) : Type 0 where
  pub accepted : (answer sheet bytes words names).number ≡ 0
  pub unmixed : Unmixed (sheet_of sheet)
