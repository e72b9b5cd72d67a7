-- Look before playing (document 02, f): what one record would write on a store, and the record that follows it.
use Rattle.std.specs.Prelude.{ℕ, Bool, false, cond, ◌||◌, List, [], ◌∷◌, length, eqb}
use Rattle.std.proofs.Math.Option.{Option, none, some}
use Rattle.std.proofs.Math.ListN.{get_elem?}
use Rattle.mir.specs.declared.records.Record.{Record}
use Rattle.records.specs.Record.{records}
use Rattle.player_machine.specs.Machine.{Store, Write, ◌≔◌}
use Rattle.player_machine.specs.Refusal.{Refusal, refusal}
use Rattle.player_machine.specs.Step.{Follows, then, end, Step, step}

-- is the word at an index written?
unfoldable pub is_written : ℕ → List Write → Bool
is_written i [] = false
is_written i (j ≔ v ∷ ws) = eqb i j || is_written i ws

-- "which words that one record would write, as store indices in the order written, and the bits they would then hold [..]; a word
-- written twice is shown once": of the writes those after which their word is not written again
unfoldable pub shown : List Write → List Write
unfolding is_written
shown [] = []
shown (i ≔ v ∷ ws) = cond (is_written i ws) (shown ws) (i ≔ v ∷ shown ws)

-- "The record that follows is always named; for a Branch 0 that is the record count, the end."
abbrev pub named : List Record → Follows → ℕ
named rs (then i back) = i
named rs end = length rs

-- what looking gives back: the player's number and index, the record that follows, and the words
pub record Look : Type 0 where
  pub number : ℕ
  pub index : ℕ
  pub follows : ℕ
  pub words : List Write

-- "that one record", played outside a call
abbrev pub step_at : List ℕ → List Record → ℕ → Store → Record → Step
step_at constants rs i σ r = step constants rs (record { at = i; back = none; store = σ }) r

-- "A start equal to the record count shows no word and the end."
abbrev pub look_at : List ℕ → List Record → ℕ → Store → Option Record → Look
look_at constants rs i σ none = record { number = 0; index = length rs; follows = length rs; words = [] }
look_at constants rs i σ (some r) =
    record {
      number = 0;
      index = length rs;
      follows = named rs (step_at constants rs i σ r).next;
      words = shown (step_at constants rs i σ r).writes;
    }

-- "The player's refusals come back in its own order": then nothing is shown, and the record named is 0
abbrev pub look_by : Refusal → Look → Look
look_by r l = cond (eqb r.number 0) l (record { number = r.number; index = r.index; follows = 0; words = [] })

-- looking at a record of a listing with its constants, on a store
unfoldable pub look : List ℕ → List ℕ → Store → ℕ → Look
look listing constants σ i =
    let rs = (records (length constants) listing).items in
    look_by (refusal listing (length constants) i (length σ)) (look_at constants rs i σ (get_elem? rs i))
