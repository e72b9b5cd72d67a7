-- Where a constant came from (document 02, m), of what the entry `lower` does.
use Rattle.std.specs.Prelude.{ℕ, suc, ◌≤◌, ◌<◌, ◌≡◌, true, List, [], ◌∷◌, ◌++◌, length, drop, get_or, replicate}
use Rattle.sheet.specs.Setup.{setup}
use Rattle.lowering.specs.Complexifier.{appends}
use Rattle.lowering.specs.Origins.{from_sheet}
use Rattle.complexify.specs.Entry.{answer, constants_after, origins_after}
use Rattle.leftovers.specs.Leftovers.{sheet_of, up_to}
use Rattle.entries.specs.Examples.{bytes, words}

-- the constants after a sheet's first n instructions
abbrev pub constants_at : List ℕ → ℕ → List ℕ
constants_at sheet n = (up_to (sheet_of sheet) n).after.consts

-- of n finished instructions the one with index k first appended the word that stands at position p: before it the word stands nowhere among the
-- constants, and there are too few of them; after it the word stands there
pub record FirstAppended (sheet : List ℕ) (n p word k : ℕ) : Type 0 where
  pub finished : k < n
  pub absent : appends word (constants_at sheet k) ≡ true
  pub before : length (constants_at sheet k) ≤ p
  pub after : p < length (constants_at sheet (suc k))
  pub stands : get_or (constants_at sheet (suc k)) p 0 ≡ word

-- "lowering returns, per constant, the instruction that first appended it, or 65,535 for one from the sheet"; "A refused instruction names
-- none": of every call that is not refused by 8, accepted or not (theorem `originated`)
abbrev pub Originated : Type 0
Originated =
    (sheet listing constants origins : List ℕ) → ((answer sheet listing constants origins).number ≡ 8 → ⊥)
    → (p : ℕ) → p < (answer sheet listing constants origins).count
    → let origin = get_or (origins_after sheet listing constants origins) p 0 in
    let word = get_or (constants_after sheet listing constants origins) p 0 in
    (p < (setup sheet).count → origin ≡ from_sheet)
    × ((setup sheet).count ≤ p → FirstAppended sheet (answer sheet listing constants origins).index p word origin)

-- ---- two sheets

-- stable mode, no real places, and the constant 7ff0000000000000; then Abs of general 1 into general 0
unfoldable pub begun : List ℕ
begun =
    (69 ∷ 0 ∷ 32 ∷ 0 ∷ 1 ∷ replicate 64 0)
    ++ 12 ∷ 0 ∷ 33 ∷ 0 ∷ 0 ∷ 0 ∷ 0 ∷ 0 ∷ 0 ∷ 0 ∷ 0xf0 ∷ 0x7f ∷ 7 ∷ 0 ∷ 1 ∷ 0 ∷ 2 ∷ 0 ∷ 1 ∷ []

-- then Divide of general 3 by general 4 into general 2; or by Temp, which is refused by 6
unfoldable pub finding : List ℕ
unfolding begun
finding = begun ++ 8 ∷ 0 ∷ 2 ∷ 0 ∷ 3 ∷ 2 ∷ 3 ∷ 4 ∷ []

unfoldable pub refusing : List ℕ
unfolding begun
refusing = begun ++ 8 ∷ 0 ∷ 2 ∷ 0 ∷ 3 ∷ 2 ∷ 3 ∷ 31 ∷ []

-- 256 numbers lent
unfoldable pub lent : List ℕ
lent = replicate 256 9

-- the number that a call answers, the constants and their origins, and past these what was lent. Abs asks for 0020000000000000,
-- 7fe0000000000000 and 7ff0000000000000, which the sheet has; Divide for 0010000000000000, 7ff0000000000000 and 3fd0000000000000 (theorems
-- `named`: `finding`, and `named_none`: `refusing`, whose Divide names none)
pub record Named (sheet : List ℕ) (number : ℕ) (k o : List ℕ) : Type 0 where
  pub answered : (answer sheet bytes words lent).number ≡ number
  pub constants : constants_after sheet bytes words lent ≡ k ++ drop (length k) words
  pub origins : origins_after sheet bytes words lent ≡ o ++ drop (length o) lent

abbrev pub Finding : Type 0
Finding =
    Named finding 0
    (0x7ff0_0000_0000_0000 ∷ 0x0020_0000_0000_0000 ∷ 0x7fe0_0000_0000_0000 ∷ 0x0010_0000_0000_0000 ∷ 0x3fd0_0000_0000_0000 ∷ [])
    (65535 ∷ 0 ∷ 0 ∷ 1 ∷ 1 ∷ [])

abbrev pub Refusing : Type 0
Refusing = Named refusing 6 (0x7ff0_0000_0000_0000 ∷ 0x0020_0000_0000_0000 ∷ 0x7fe0_0000_0000_0000 ∷ []) (65535 ∷ 0 ∷ 0 ∷ [])
