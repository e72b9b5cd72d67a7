-- What refuses a play (document 01, Player), as a number and an index alone: looking (document 02, f) and the printed page (i) ask it too.
use Rattle.std.specs.Prelude.{ℕ, ◌≡◌, Bool, true, false, not, cond, List, length, drop, ltb, eqb}
use Rattle.mir.specs.declared.records.Record.{Record}
use Rattle.mir.specs.Decode.{Decoded}
use Rattle.records.specs.Record.{records}
use Rattle.player_machine.specs.Machine.{Store, End, block, play, going}
use Rattle.player_machine.specs.Jumps.{breach}
use Rattle.player_machine.specs.Answer.{Answer, accept, answer}

-- a number and a record's index
pub record Refusal : Type 0 where
  pub number : ℕ
  pub index : ℕ

abbrev pub refuse_by : Bool → ℕ → ℕ → Refusal → Refusal
refuse_by true number index r = record { number = number; index = index }
refuse_by false number index r = r

-- "Playing first examines every record for 1 to 5, then the start record, then the jump rules, lowest index first"; "on acceptance the
-- index is the count of [..] records"
abbrev pub refusal_of : Decoded Record → ℕ → Refusal
refusal_of d start =
    refuse_by (not (eqb d.fault 0)) d.fault (length d.items)
    (refuse_by (ltb (length d.items) start) 9 start
    (refuse_by (ltb (breach d.items) (length d.items)) 9 (breach d.items)
    (record { number = 0; index = length d.items })))

-- The refusal of a listing with so many constants, from a record on, over a store of so many words; 0 where nothing refuses. "8 is tested
-- first."
unfoldable pub refusal : List ℕ → ℕ → ℕ → ℕ → Refusal
refusal listing constants start words =
    refuse_by (ltb 65536 (length listing)) 8 0
    (refuse_by (ltb 256 constants) 8 0
    (refuse_by (not (eqb words 1602)) 8 0
    (refusal_of (records constants listing) start)))

-- what playing answers where this refuses it, or where nothing does and the play ends so
abbrev pub answer_by : Refusal → Store → End → Answer
answer_by r σ e =
    cond (eqb r.number 0) (accept r.index e) (record { number = r.number; index = r.index; played = 0; store = σ })

-- playing is refused just so, or else plays (theorem `refused`, of `refusal`)
abbrev pub Refused : (List ℕ → ℕ → ℕ → ℕ → Refusal) → Type 0
Refused refuses =
    (listing constants : List ℕ) (start : ℕ) (σ : Store)
    → answer listing constants start σ
    ≡ answer_by (refuses listing (length constants) start (length σ)) σ
    (play constants (block (records (length constants) listing).items) going (drop start (records (length constants) listing).items) σ)
