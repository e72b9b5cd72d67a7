-- Demand 2 of what the entry `lower` does: what it leaves is what `complexify` lists for the sheet's decoded instructions.
use Rattle.std.specs.Prelude.{ℕ, ◌≡◌, List, length}
use Rattle.mir.specs.Encode.{encode_all}
use Rattle.records.specs.Record.{records}
use Rattle.complexify.specs.Entry.{answer}
use Rattle.leftovers.specs.Leftovers.{sheet_of, up_to}
use Rattle.entries.specs.Entries.{left}

-- what `lower` left is of the sheet's first n instructions, from a fresh `Complexifier`: the bytes of the records that they list, the
-- constants, and the realness held after them
pub record Listed (sheet listing constants origins : List ℕ) (n : ℕ) : Type 0 where
  pub bytes : (left sheet listing constants origins).listing ≡ encode_all (up_to (sheet_of sheet) n).records
  pub words : (left sheet listing constants origins).constants ≡ (up_to (sheet_of sheet) n).after.consts
  pub real : (left sheet listing constants origins).last ≡ (up_to (sheet_of sheet) n).after.real

-- of an accepted sheet these are all its instructions, and the player reads their records again
pub record All (sheet listing constants origins : List ℕ) (n : ℕ) : Type 0 where
  pub count : n ≡ length (sheet_of sheet).instructions
  pub read :
      records (length (left sheet listing constants origins).constants) (left sheet listing constants origins).listing
      ≡ record { items = (up_to (sheet_of sheet) n).records; fault = 0 }

-- so is every call that is not refused by 8, accepted or not: it ends after as many instructions as its index says, wherever that is
abbrev pub Complexified : Type 0
Complexified =
    (sheet listing constants origins : List ℕ) → ((answer sheet listing constants origins).number ≡ 8 → ⊥)
    → Listed sheet listing constants origins (answer sheet listing constants origins).index
    × ((answer sheet listing constants origins).number ≡ 0 → All sheet listing constants origins (answer sheet listing constants origins).index)
