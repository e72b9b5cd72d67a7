-- What playing gives back (document 01, "What the two entries give back" and Player), over the bytes of a listing.
use Rattle.std.specs.Prelude.{ℕ, Bool, true, false, not, List, length, drop, ltb, eqb}
use Rattle.mir.specs.declared.records.Record.{Record}
use Rattle.mir.specs.Decode.{Decoded}
use Rattle.records.specs.Record.{records}
use Rattle.player_machine.specs.Machine.{Store, End, block, play, going}
use Rattle.player_machine.specs.Jumps.{breach}

-- "Playing returns a number, a record's index and the records played", and leaves a store.
pub record Answer : Type 0 where
  pub number : ℕ
  pub index : ℕ
  pub played : ℕ
  pub store : Store

-- "each of its refusals plays 0 records and the store is unchanged"
abbrev pub refuse : Bool → ℕ → ℕ → Store → Answer → Answer
refuse true number index σ a = record { number = number; index = index; played = 0; store = σ }
refuse false number index σ a = a

-- "on acceptance the index is the count of [..] records"
abbrev pub accept : ℕ → End → Answer
accept count e = record { number = 0; index = count; played = e.played; store = e.store }

-- "Another store length, over 256 constants, or a listing over 65,536 bytes is refused by 8." "Playing first examines every record for 1
-- to 5, then the start record, then the jump rules, lowest index first." "A start record is named; above the record count it is refused
-- by 9 with that index." "A breach is refused by 9 at the record breaking the rule".
abbrev pub play_records : List ℕ → Decoded Record → ℕ → Store → Answer
play_records constants d start σ =
    refuse (not (eqb d.fault 0)) d.fault (length d.items) σ
    (refuse (ltb (length d.items) start) 9 start σ
    (refuse (ltb (breach d.items) (length d.items)) 9 (breach d.items) σ
    (accept (length d.items) (play constants (block d.items) going (drop start d.items) σ))))

unfoldable pub answer : List ℕ → List ℕ → ℕ → Store → Answer
answer listing constants start σ =
    refuse (ltb 65536 (length listing)) 8 0 σ
    (refuse (ltb 256 (length constants)) 8 0 σ
    (refuse (not (eqb (length σ) 1602)) 8 0 σ
    (play_records constants (records (length constants) listing) start σ)))
