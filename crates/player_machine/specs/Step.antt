-- The machine by steps, a second rendering of document 01's Player beside Machine.antt. A listing that keeps the jump rules plays the same
-- by both.
use Rattle.std.specs.Prelude.{ℕ, zero, suc, ◌+◌, ◌≤◌, ◌≡◌, Bool, cond, List, [], ◌∷◌, length, drop, eqb}
use Rattle.std.proofs.Math.Option.{Option, none, some}
use Rattle.std.proofs.Math.ListN.{get_elem?}
use Rattle.mir.specs.declared.records.Record.{Record}
use Rattle.player_machine.specs.Machine.{Store, at, Write, writes, put, is_label, block, branches, going, End, ticks, play}
use Rattle.player_machine.specs.Jumps.{breach}

-- Where a play stands: the index of the record that is reached next, in a call the index at which it goes on afterwards, and the store.
pub record PlayState : Type 0 where
  pub at : ℕ
  pub back : Option ℕ
  pub store : Store

-- how many records stand before the first Label l
abbrev pub before : ℕ → List Record → ℕ
before l [] = 0
before l (r ∷ rs) = cond (is_label l r) 0 (suc (before l rs))

-- "a jump reaches its Label": the index of the first Label l from an index on
abbrev pub label_from : List Record → ℕ → ℕ → ℕ
label_from rs n l = n + before l (drop n rs)

-- What follows a record: the record at an index, in a call or not, or the end of the play.
pub data Follows : Type 0 where
  then : ℕ → Option ℕ → Follows
  end : Follows

-- "Branch 0 returns, or ends a play outside a call."
abbrev pub returns : Option ℕ → Follows
returns none = end
returns (some i) = then i none

-- The record behind it follows, but for jumps: "Branch 2 needs Label 2 later", "A Call needs a Label 1 anywhere in the listing"; a BranchIf
-- by the store.
unfoldable pub follows : List Record → PlayState → Record → Follows
follows rs s (Record.Work w) = then (suc s.at) s.back
follows rs s (Record.Label l) = then (suc s.at) s.back
follows rs s (Record.Branch l) = cond (eqb l 0) (returns s.back) (then (label_from rs (suc s.at) l) s.back)
follows rs s (Record.Call l) = then (label_from rs 0 l) (some (suc s.at))
follows rs s (Record.BranchIf c l e) =
    cond (branches e (at s.store c)) (then (label_from rs (suc s.at) l) s.back) (then (suc s.at) s.back)

-- only a working record writes
unfoldable pub written : List ℕ → Store → Record → List Write
written constants σ (Record.Work w) = writes constants σ w
written constants σ (Record.Label l) = []
written constants σ (Record.Branch l) = []
written constants σ (Record.Call l) = []
written constants σ (Record.BranchIf c l e) = []

-- One step: what the record writes, and what follows it.
pub record Step : Type 0 where
  pub writes : List Write
  pub next : Follows

unfoldable pub step : List ℕ → List Record → PlayState → Record → Step
unfolding follows written
step constants rs s r = record { writes = written constants s.store r; next = follows rs s r }

-- how a play goes on, by the play of what follows: "Each record reached counts"; a play ends where no record stands
abbrev pub after : (PlayState → End) → Store → Follows → End
after on σ (then i back) = ticks 1 (on (record { at = i; back = back; store = σ }))
after on σ end = record { store = σ; played = 1 }

abbrev pub reached : List ℕ → List Record → (PlayState → End) → PlayState → Option Record → End
reached constants rs on s none = record { store = s.store; played = 0 }
reached constants rs on s (some r) =
    after on (put (step constants rs s r).writes s.store) (step constants rs s r).next

-- a play by at most so many steps
unfoldable pub steps : List ℕ → List Record → ℕ → PlayState → End
unfolding step
steps constants rs zero s = record { store = s.store; played = 0 }
steps constants rs (suc n) s = reached constants rs (λ t. steps constants rs n t) s (get_elem? rs s.at)

-- a listing that keeps the jump rules plays by so many steps, or more, as by Machine.antt, from any record on (theorem `by_steps`, of
-- `most`)
abbrev pub PlaysBySteps : (List Record → ℕ) → Type 0
PlaysBySteps count =
    (constants : List ℕ) (rs : List Record) (start n : ℕ) (σ : Store) → breach rs ≡ length rs → count rs ≤ n
    → steps constants rs n (record { at = start; back = none; store = σ }) ≡ play constants (block rs) going (drop start rs) σ
