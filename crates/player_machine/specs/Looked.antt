-- What is proved of looking (document 02, f): it equals playing that record, and looking again and again is the play's way.
use Rattle.std.specs.Prelude.{ℕ, zero, suc, ◌+◌, ◌≤◌, ◌≡◌, Bool, true, not, cond, ◌&&◌, List, [], ◌∷◌, length}
use Rattle.std.proofs.Math.Option.{Option, none, some}
use Rattle.std.proofs.Math.ListN.{get_elem?}
use Rattle.mir.specs.declared.records.Record.{Record}
use Rattle.records.specs.Record.{records}
use Rattle.player_machine.specs.Machine.{Store, Write, ◌≔◌, put}
use Rattle.player_machine.specs.Jumps.{is_jump}
use Rattle.player_machine.specs.Count.{is_call}
use Rattle.player_machine.specs.Answer.{Answer, answer}
use Rattle.player_machine.specs.Look.{is_written, named, Look, step_at, look}

-- the records of a listing
abbrev pub listed : List ℕ → List ℕ → List Record
listed listing constants = (records (length constants) listing).items

-- no word is written twice
unfoldable pub once : List Write → Bool
once [] = true
once (i ≔ v ∷ ws) = not (is_written i ws) && once ws

-- "It equals playing that record on a copy", one step of `Step`.
pub record ShowsStep (constants : List ℕ) (rs : List Record) (i : ℕ) (σ : Store) (r : Record) (l : Look) : Type 0 where
  -- writing what is shown gives the store that the step gives
  pub store : put l.words σ ≡ put (step_at constants rs i σ r).writes σ
  -- shown are just the words that it writes, each once, "at most two"
  pub written : (j : ℕ) → is_written j l.words ≡ is_written j (step_at constants rs i σ r).writes
  pub apart : once l.words ≡ true
  pub few : length l.words ≤ 2
  -- "Label, Branch, BranchIf and Call show no word."
  pub quiet : is_jump r ≡ true → l.words ≡ []
  -- "The record that follows is always named"
  pub follows : l.follows ≡ named rs (step_at constants rs i σ r).next

-- Of every listing, table of constants, store and record: the number and index are those of playing from there; refused, nothing is shown;
-- at the end no word and the end; and at a record its step (theorem `looked`, of `look`).
pub record Looked (looks : List ℕ → List ℕ → Store → ℕ → Look) : Type 0 where
  pub number : (listing constants : List ℕ) (σ : Store) (i : ℕ)
      → (looks listing constants σ i).number ≡ (answer listing constants i σ).number
  pub index : (listing constants : List ℕ) (σ : Store) (i : ℕ)
      → (looks listing constants σ i).index ≡ (answer listing constants i σ).index
  pub refused : (listing constants : List ℕ) (σ : Store) (i : ℕ) → ((answer listing constants i σ).number ≡ 0 → ⊥)
      → ((looks listing constants σ i).words ≡ []) × ((looks listing constants σ i).follows ≡ 0)
  pub ended : (listing constants : List ℕ) (σ : Store) (i : ℕ) → (answer listing constants i σ).number ≡ 0
      → get_elem? (listed listing constants) i ≡ none
      → ((looks listing constants σ i).words ≡ []) × ((looks listing constants σ i).follows ≡ i)
  pub steps : (listing constants : List ℕ) (σ : Store) (i : ℕ) (r : Record) → (answer listing constants i σ).number ≡ 0
      → get_elem? (listed listing constants) i ≡ some r
      → ShowsStep constants (listed listing constants) i σ r (looks listing constants σ i)

-- ---- "At the bench people step through a formula": looking and writing, again and again

-- how often was looked, the record that follows, and the store
pub record Bench : Type 0 where
  pub looks : ℕ
  pub at : ℕ
  pub store : Store

-- it goes no further at the end, nor at a Call, whose block the player plays
abbrev pub stops_at : Option Record → Bool
stops_at none = true
stops_at (some r) = is_call r

abbrev pub looks_more : Bench → Bench
looks_more b = record { looks = 1 + b.looks; at = b.at; store = b.store }

-- from a record on, n times at most
unfoldable pub bench : List ℕ → List ℕ → ℕ → ℕ → Store → Bench
bench listing constants zero i σ = record { looks = 0; at = i; store = σ }
bench listing constants (suc n) i σ =
    cond (stops_at (get_elem? (listed listing constants) i)) (record { looks = 0; at = i; store = σ })
    (looks_more (bench listing constants n (look listing constants σ i).follows (put (look listing constants σ i).words σ)))

-- so many records more are played
abbrev pub plays_more : ℕ → Answer → Answer
plays_more n a = record { number = a.number; index = a.index; played = n + a.played; store = a.store }

-- Playing from where it began is playing on from where it stands, with one record more for each look; and with as many looks as there are
-- records it comes to the end or to a Call (theorem `looked_on`, of `bench`).
pub record LookedOn (benches : List ℕ → List ℕ → ℕ → ℕ → Store → Bench) : Type 0 where
  pub plays : (listing constants : List ℕ) (n i : ℕ) (σ : Store) → (answer listing constants i σ).number ≡ 0
      → answer listing constants i σ
      ≡ plays_more (benches listing constants n i σ).looks
      (answer listing constants (benches listing constants n i σ).at (benches listing constants n i σ).store)
  pub stops : (listing constants : List ℕ) (n i : ℕ) (σ : Store) → (answer listing constants i σ).number ≡ 0
      → length (listed listing constants) ≤ n
      → stops_at (get_elem? (listed listing constants) (benches listing constants n i σ).at) ≡ true
