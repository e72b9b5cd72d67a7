-- What the marks of a listing's records promise of its plays from record 0 (document 02, l). Nothing is asked of Half.
use Rattle.std.specs.Prelude.{ℕ, ◌≤◌, ◌≡◌, false, List, length, replicate, T}
use Rattle.mir.specs.declared.records.Record.{Record}
use Rattle.records.specs.Record.{records}
use Rattle.player_machine.specs.Machine.{Store, at}
use Rattle.player_machine.specs.Answer.{Answer, answer}
use Rattle.marks.specs.Marks.{Set, drawn_on, registers}

-- two stores of one length that "agree in all places": in every word from 66 up, after the registers
pub record SamePlaces (σ τ : Store) : Type 0 where
  pub length : length σ ≡ length τ
  pub places : (i : ℕ) → 66 ≤ i → at σ i ≡ at τ i

-- two plays that "end with equal places", with one number and one index, after equally many records
pub record EndEqual (a b : Answer) : Type 0 where
  pub number : a.number ≡ b.number
  pub index : a.index ≡ b.index
  pub played : a.played ≡ b.played
  pub places : (i : ℕ) → 66 ≤ i → at a.store i ≡ at b.store i

-- the records of a listing, as the player reads them with these constants
abbrev pub listing_records : List ℕ → List ℕ → List Record
listing_records listing constants = (records (length constants) listing).items

-- "If no mark is set, two plays from record 0 whose stores agree in all places end with equal places, however their registers began."
-- (theorem `unmarked`)
abbrev pub Unmarked : Type 0
Unmarked =
    (listing constants : List ℕ) (σ τ : Store) → registers (drawn_on (listing_records listing constants)) ≡ replicate 66 false → SamePlaces σ τ
    → EndEqual (answer listing constants 0 σ) (answer listing constants 0 τ)

-- plays end with equal places, and with equal words in a set
pub record EndEqualIn (A : Set) (a b : Answer) : Type 0 where
  pub equal : EndEqual a b
  pub within : (i : ℕ) → T (A i) → at a.store i ≡ at b.store i

-- Where marks are set, the registers marked are all that comes from outside: two plays whose stores agree in these too end with equal
-- places, and with equal words in these (theorem `drawn_alone`)
abbrev pub DrawnAlone : Type 0
DrawnAlone =
    (listing constants : List ℕ) (σ τ : Store) → SamePlaces σ τ
    → ((i : ℕ) → T (drawn_on (listing_records listing constants) i) → at σ i ≡ at τ i)
    → EndEqualIn (drawn_on (listing_records listing constants)) (answer listing constants 0 σ) (answer listing constants 0 τ)
