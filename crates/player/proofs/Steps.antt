-- The run over positions and the machine's play: each law takes what the code knows of the record at a position.
use Prim.Native.Nat.{ℕ, ◌+◌, ◌<◌}
use native.Mathlib.Omega.{arith}
use native.Mathlib.Nat.{zero-add, add-zero, add_assoc}
use mathlib.Core.Path.{◌≡◌, refl, sym, ap, ◌∙◌, subst}
use mathlib.Core.Bool.{Bool, true, false}
use mathlib.Core.List.{List, [], ◌∷◌}
use Rattle.std.proofs.Common.{None, Some}
use lib.ListN.{length, drop}
use borrow.Author.Tests.{eq-eqb, ne_eqb}
use Rattle.mir.specs.declared.records.Work.{Work}
use Rattle.mir.specs.declared.records.Record.{Record}
use Rattle.mir.specs.Read.{Read}
use Rattle.mir.proofs.Decoding.{items, Here, Done}
use Rattle.records.specs.Record.{record_from}
use Rattle.records.proofs.Reading.{here-read}
use Rattle.player_machine.specs.Machine.{Store, exec, execs, works, is_label, seek, branches, going, seeking, End, ticks, play}
use Rattle.player_machine.specs.Machine as Machine
use Rattle.player_machine.specs.Jumps.{is_jump}
use Rattle.player_machine.proofs.Seeking.{seek-play}
use Rattle.player.specs.declared.run.Progress.{Progress}
use Rattle.player.specs.Positions.{left, fault, Jumps, block_at, on_from, AtLabel, BlockPlayed, RecordPlayed}

-- seeking
pub seek_on : {read : List ℕ → Read Record} {s : List ℕ} {at next : ℕ} {r : Record} (l : ℕ) → Here read s at r next → is_label l r ≡ false
    → seek l (items read (drop next s)) ≡ seek l (items read (drop at s))
unfolding seek
seek_on l e f = sym (ap (seek l) e.same ∙ simp f)

pub seek_here : {read : List ℕ → Read Record} {s : List ℕ} {at next : ℕ} {r : Record} (l : ℕ) → Here read s at r next → is_label l r ≡ true
    → items read (drop at s) ≡ seek l (items read (drop at s))
unfolding seek
seek_here l e f = e.same ∙ sym (ap (seek l) e.same ∙ simp f)

pub seek_none : {read : List ℕ → Read Record} {s : List ℕ} {at i j k : ℕ} (l : ℕ) → Done read s at j → Done read s i k
    → items read (drop i s) ≡ seek l (items read (drop at s))
unfolding seek
seek_none l e f = f.same ∙ sym (ap (seek l) e.same)

-- the block
pub works_on : {read : List ℕ → Read Record} {s : List ℕ} {at next : ℕ} {w : Work} → Here read s at (Record.Work w) next
    → works (items read (drop at s)) ≡ w ∷ works (items read (drop next s))
unfolding works
works_on e = ap works e.same

pub works_done : {read : List ℕ → Read Record} {s : List ℕ} {at k : ℕ} → Done read s at k → works (items read (drop at s)) ≡ []
unfolding works
works_done e = ap works e.same

IsTrue : Bool → Type 0
IsTrue true = Unit {0}
IsTrue false = ⊥

no : {X : Type 0} → true ≡ false → X
unfolding IsTrue
no e = absurd (subst IsTrue e tt)

works_stopped : (r : Record) (rs : List Record) → is_jump r ≡ true → works (r ∷ rs) ≡ []
unfolding works
works_stopped (Record.Work w) rs e = no (sym e)
works_stopped (Record.Label l) rs e = refl
works_stopped (Record.Branch l) rs e = refl
works_stopped (Record.Call l) rs e = refl
works_stopped (Record.BranchIf c l x) rs e = refl

-- a record that jumps is no working record
pub works_jump : {count : ℕ} {s : List ℕ} {at : ℕ} → Jumps count s at → works (left count s at) ≡ []
works_jump {count} {s} {at} j = ap works (here-read count s at j.rec j.here).same ∙ works_stopped j.rec _ j.jump

pub execs_none : {l : List Work} (constants : List ℕ) (σ : Store) → l ≡ [] → execs constants l σ ≡ σ
unfolding execs
execs_none constants σ e = ap (λ l. execs constants l σ) e

pub execs_on : {l t : List Work} {w : Work} (constants : List ℕ) (σ : Store) → l ≡ w ∷ t
    → execs constants l σ ≡ execs constants t (exec constants w σ)
unfolding execs
execs_on constants σ e = ap (λ l. execs constants l σ) e

-- the record that stands there, as the code knows it
pub known_here : {read : List ℕ → Read Record} {s : List ℕ} {at next : ℕ} {r x : Record} → Here read s at r next → r ≡ x → Here read s at x next
known_here {read} {s} {at} {next} e f = subst (λ x. Here read s at x next) f e

-- one record outside a call
abbrev from : List ℕ → List ℕ → ℕ → List Record → Store → End
from constants s body rs σ = play constants (block_at constants s body) going rs σ

-- what is known of the position of the next record
told : (P : ℕ → Type 0) {n : ℕ} → P n → (m : ℕ) → Some n ≡ Some m → P m
told P {n} p m e = let f : n ≡ m = cc in subst P f p

module _ {constants s : List ℕ} {body at : ℕ} (z : fault (length constants) s at ≡ 0) where
  pub play-work : {next : ℕ} {σ τ : Store} {w : Work} → Here (record_from (length constants)) s at (Record.Work w) next
      → τ ≡ exec constants w σ → RecordPlayed constants s body at σ τ (record { next = Some next; played = 1 })
  unfolding play
  play-work {next} {σ} {τ} {w} e h =
      let g = e.on in
      record {
        same = ap (λ l. from constants s body l σ) e.same ∙ ap (λ u. ticks 1 (from constants s body (left (length constants) s next) u)) (sym h);
        on = told (λ m. at < m) g;
        sound = told (λ m. fault (length constants) s m ≡ 0) (sym e.sound ∙ z);
        small = omega arith;
      }

  -- what goes on behind the record at hand
  passes_on : {next : ℕ} {r : Record} {σ : Store} → Here (record_from (length constants)) s at r next
      → from constants s body (r ∷ left (length constants) s next) σ ≡ ticks 1 (on_from constants s body next σ)
      → RecordPlayed constants s body at σ σ (record { next = Some next; played = 1 })
  passes_on {next} {r} {σ} e f =
      record {
        same = ap (λ l. from constants s body l σ) e.same ∙ f;
        on = told (λ m. at < m) e.on;
        sound = told (λ m. fault (length constants) s m ≡ 0) (sym e.sound ∙ z);
        small = omega arith;
      }

  -- what goes on at the Label that is found behind it
  leads-to : {next l to : ℕ} {r : Record} {σ : Store} → Here (record_from (length constants)) s at r next → AtLabel s next l to
      → from constants s body (r ∷ left (length constants) s next) σ
      ≡ ticks 1 (play constants (block_at constants s body) (seeking l) (left (length constants) s next) σ)
      → RecordPlayed constants s body at σ σ (record { next = Some to; played = 1 })
  leads-to {next} {l} {to} {r} {σ} e w f =
      let h = w.on in
      let g = e.on in
      record {
        same = ap (λ l. from constants s body l σ) e.same
            ∙ f
            ∙ ap (ticks 1) (seek-play constants (block_at constants s body) l (left (length constants) s next) σ)
            ∙ ap (λ l. ticks 1 (from constants s body l σ)) (sym (w.same (length constants) (sym e.sound ∙ z)));
        on = told (λ m. at < m) (omega (arith, g, h));
        sound = told (λ m. fault (length constants) s m ≡ 0) (w.sound (length constants) (sym e.sound ∙ z));
        small = omega arith;
      }

  pub play-label : {next l : ℕ} {σ : Store} → Here (record_from (length constants)) s at (Record.Label l) next
      → RecordPlayed constants s body at σ σ (record { next = Some next; played = 1 })
  unfolding play
  play-label e = passes_on e refl

  pub play-end : {next l : ℕ} {σ : Store} → Here (record_from (length constants)) s at (Record.Branch l) next → l ≡ 0
      → RecordPlayed constants s body at σ σ (record { next = None; played = 1 })
  unfolding play
  play-end {next} {l} {σ} e z =
      record { same = ap (λ l. from constants s body l σ) e.same ∙ simp (eq-eqb _ _ z); on = λ m h. absurd (cc); sound = λ m h. absurd (cc); small = omega arith }

  pub play-branch : {next l to : ℕ} {σ : Store} → Here (record_from (length constants)) s at (Record.Branch l) next → (l ≡ 0 → ⊥)
      → AtLabel s next l to → RecordPlayed constants s body at σ σ (record { next = Some to; played = 1 })
  unfolding play
  play-branch e n w = leads-to e w (simp (ne_eqb _ _ n))

  pub play-taken : {next c l to : ℕ} {x : Bool} {σ : Store} → Here (record_from (length constants)) s at (Record.BranchIf c l x) next
      → branches x (Machine.at σ c) ≡ true → AtLabel s next l to
      → RecordPlayed constants s body at σ σ (record { next = Some to; played = 1 })
  unfolding play
  play-taken e b w = leads-to e w (simp b)

  pub play-untaken : {next c l : ℕ} {x : Bool} {σ : Store} → Here (record_from (length constants)) s at (Record.BranchIf c l x) next
      → branches x (Machine.at σ c) ≡ false → RecordPlayed constants s body at σ σ (record { next = Some next; played = 1 })
  unfolding play
  play-untaken e b = passes_on e (simp b)

  pub play-call : {next l k : ℕ} {σ τ : Store} → Here (record_from (length constants)) s at (Record.Call l) next
      → BlockPlayed constants s body σ τ k → RecordPlayed constants s body at σ τ (record { next = Some next; played = 2 + k })
  unfolding play
  play-call {next} {l} {k} {σ} {τ} e w =
      let c = w.count in
      let d = w.small in
      let b = block_at constants s body in
      let m : 3 + length b ≡ 2 + k = omega (arith, c) in
      record {
        same = ap (λ l. from constants s body l σ) e.same
            ∙ ap (λ j. ticks j (from constants s body (left (length constants) s next) (execs constants b σ))) m
            ∙ ap (λ u. ticks (2 + k) (from constants s body (left (length constants) s next) u)) (sym w.same);
        on = told (λ m. at < m) e.on;
        sound = told (λ m. fault (length constants) s m ≡ 0) (sym e.sound ∙ z);
        small = omega (arith, d);
      }

-- a record played from an equal store
pub play-from : {constants s : List ℕ} {body at : ℕ} {σ τ υ : Store} {p : Progress} → τ ≡ σ → RecordPlayed constants s body at τ υ p
    → RecordPlayed constants s body at σ υ p
play-from {constants} {s} {body} {at} {σ} {τ} {υ} {p} e w = subst (λ u. RecordPlayed constants s body at u υ p) e w

-- the progress that the code returns
pub play_as : {constants s : List ℕ} {body at : ℕ} {σ τ : Store} {p q : Progress} → p ≡ q → RecordPlayed constants s body at σ τ q
    → RecordPlayed constants s body at σ τ p
play_as {constants} {s} {body} {at} {σ} {τ} e w = subst (λ p. RecordPlayed constants s body at σ τ p) (sym e) w

-- the whole run: what is left to do from here is the whole answer
pub run_start : (e : End) → ticks 0 e ≡ e
unfolding ticks
run_start e = λ i. record { store = e.store; played = zero-add e.played i }

ticks-ticks : (m n : ℕ) (e : End) → ticks m (ticks n e) ≡ ticks (m + n) e
unfolding ticks
ticks-ticks m n e = λ i. record { store = e.store; played = sym (add_assoc m n e.played) i }

pub run_on : {constants s : List ℕ} {body at : ℕ} {σ τ : Store} {p : Progress} (c : ℕ) → RecordPlayed constants s body at σ τ p
    → {next : ℕ} → p.next ≡ Some next → ticks c (on_from constants s body at σ) ≡ ticks (c + p.played) (on_from constants s body next τ)
run_on c w m = ap (ticks c) (w.same ∙ simp m) ∙ ticks-ticks _ _ _

pub run_stop : {constants s : List ℕ} {body at : ℕ} {σ τ : Store} {p : Progress} (c : ℕ) → RecordPlayed constants s body at σ τ p
    → p.next ≡ None → ticks c (on_from constants s body at σ) ≡ record { store = τ; played = c + p.played }
unfolding ticks
run_stop c w m = ap (ticks c) (w.same ∙ simp m)

pub run_end : {s : List ℕ} {at k : ℕ} (constants : List ℕ) (body : ℕ) (σ : Store) (c : ℕ) → Done (record_from (length constants)) s at k
    → ticks c (on_from constants s body at σ) ≡ record { store = σ; played = c }
unfolding ticks play
run_end {s} {at} {k} constants body σ c h =
    ap (λ l. ticks c (play constants (block_at constants s body) going l σ)) h.same
    ∙ (λ i. record { store = σ; played = add-zero c i })
