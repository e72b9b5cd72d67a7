-- What the functions over positions in a listing give. A position stands for the records from it on.
use Rattle.std.specs.Prelude.{ℕ, ◌<◌, ◌≡◌, List, [], ◌∷◌, length, drop}
use Rattle.std.proofs.Math.Option.{Option, none, some}
use Rattle.mir.specs.declared.records.Work.{Work}
use Rattle.mir.specs.declared.records.Record.{Record}
use Rattle.mir.specs.Read.{got}
use Rattle.records.specs.Record.{record_from}
use Rattle.player_machine.specs.Machine.{Store, Write}
use Rattle.player_machine.specs.Draws.{fills}
use Rattle.player_machine.specs.Step.{before, follows, written}
use Rattle.player_machine.specs.Look.{shown, named}
use Rattle.player.specs.Positions.{left, fault}
use Rattle.look.specs.declared.show.Filled.{Filled}
use Rattle.look.specs.declared.show.Shown.{Shown}
use Rattle.look.specs.Numbers.{index_of, bits_of}

-- ---- the record that follows

-- in a listing of `all` records, none of which is refused, the record with index i stands at a position
pub record Standing (count : ℕ) (s : List ℕ) (at i all : ℕ) : Type 0 where
  pub sound : fault count s 0 ≡ 0
  pub here : fault count s at ≡ 0
  pub same : left count s at ≡ drop i (left count s 0)
  pub whole : all ≡ length (left count s 0)
  pub inside : at < length s

-- so it stands with some count of constants
pub record Stood (s : List ℕ) (at i all : ℕ) : Type 0 where
  pub count : ℕ
  pub stands : Standing count s at i all

-- r records stand before the first Label l from a position on
pub record BeforeLabel (s : List ℕ) (at l r : ℕ) : Type 0 where
  pub same : (count : ℕ) → fault count s at ≡ 0 → r ≡ before l (left count s at)

-- the record r follows the one at a position, outside a call
abbrev pub FollowsAt : List ℕ → Store → ℕ → ℕ → ℕ → ℕ → Type 0
FollowsAt s σ at i all r =
    (count : ℕ) → Standing count s at i all → (rec : Record) → record_from count (drop at s) ≡ got rec
    → r ≡ named (left count s 0) (follows (left count s 0) (record { at = i; back = none; store = σ }) rec)

-- ---- the words

-- the first and the last word that a record fills
abbrev pub ends : List ℕ → Filled
ends [] = record { first = 0; last = 0 }
ends (i ∷ []) = record { first = i; last = i }
ends (i ∷ j ∷ is) = record { first = i; last = j }

abbrev pub FillsOf : Option Work → Filled → Type 0
FillsOf o r = (w : Work) → o ≡ some w → r ≡ ends (fills w)

-- two words at most, as plain numbers
abbrev pub plain : List Write → Shown
plain ws =
    record { count = length ws; index1 = index_of ws; bits1 = bits_of ws; index2 = index_of (drop 1 ws); bits2 = bits_of (drop 1 ws) }

-- what is shown of the record that bytes begin with
abbrev pub ShownOf : List ℕ → List ℕ → Store → Shown → Type 0
ShownOf constants s σ r =
    (rec : Record) → record_from (length constants) s ≡ got rec → r ≡ plain (shown (written constants σ rec))
