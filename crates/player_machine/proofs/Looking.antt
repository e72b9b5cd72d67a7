-- Looking equals playing that record, and looking again and again is the play's way.
use Prim.Native.Nat.{ℕ, zero, suc, ◌+◌, ◌-◌, ◌≤◌}
use native.Mathlib.Omega.{arith}
use native.Mathlib.Nat.{zero-add, add_assoc, le_refl}
use mathlib.Core.Path.{◌≡◌, refl, sym, ap, ◌∙◌, subst}
use mathlib.Core.Bool.{Bool, true, false, cond, true≢false}
use mathlib.Core.List.{List, [], ◌∷◌}
use mathlib.Core.Option.{Option, none, some}
use lib.ListN.{length, drop, get_elem?, length-drop, drop_of_length-le}
use lib.Dec.{eqb}
use borrow.Author.Tests.{eq-eqb, ne_eqb, eqb-true, le-ltb}
use Rattle.mir.specs.declared.records.Record.{Record}
use Rattle.records.specs.Record.{records}
use Rattle.player_machine.specs.Machine.{Store, at, put, exec, is_label, seek, block, branches, going, seeking, End, ticks, play}
use Rattle.player_machine.specs.Jumps.{is_jump}
use Rattle.player_machine.specs.Count.{is_call}
use Rattle.player_machine.specs.Answer.{Answer, accept, answer}
use Rattle.player_machine.specs.Refusal.{Refusal, refusal, answer_by}
use Rattle.player_machine.specs.Step.{before, label_from, follows, written, step}
use Rattle.player_machine.specs.Look.{shown, named, Look, step_at, look_at, look_by, look}
use Rattle.player_machine.specs.Looked.{listed, ShowsStep, Looked, Bench, stops_at, looks_more, bench, plays_more, LookedOn}
use Rattle.player_machine.proofs.Seeking.{seek-play}
use Rattle.player_machine.proofs.Drawing.{put-length}
use Rattle.player_machine.proofs.Stepping.{behind_it, label_seek}
use Rattle.player_machine.proofs.Refusing.{Accepted, accepted, refused}
use Rattle.player_machine.proofs.Showing.{shown_put, shown_written, shown_once, shown_few}

-- ---- the numbers are those of playing

number_by : (r : Refusal) (σ : Store) (e : End) → (answer_by r σ e).number ≡ r.number
number_by r σ e = by (eqb r.number 0) refl
  where
    by : (b : Bool) → eqb r.number 0 ≡ b
        → (cond b (accept r.index e) (record { number = r.number; index = r.index; played = 0; store = σ })).number ≡ r.number
    by true q = sym (eqb-true r.number 0 q)
    by false q = refl

index_by : (r : Refusal) (σ : Store) (e : End) → (answer_by r σ e).index ≡ r.index
index_by r σ e = by (eqb r.number 0)
  where
    by : (b : Bool)
        → (cond b (accept r.index e) (record { number = r.number; index = r.index; played = 0; store = σ })).index ≡ r.index
    by true = refl
    by false = refl

look_number : (r : Refusal) (l : Look) → l.number ≡ 0 → (look_by r l).number ≡ r.number
look_number r l h = by (eqb r.number 0) refl
  where
    by : (b : Bool) → eqb r.number 0 ≡ b
        → (cond b l (record { number = r.number; index = r.index; follows = 0; words = [] })).number ≡ r.number
    by true q = h ∙ sym (eqb-true r.number 0 q)
    by false q = refl

look_index : (r : Refusal) (l : Look) → (r.number ≡ 0 → l.index ≡ r.index) → (look_by r l).index ≡ r.index
look_index r l h = by (eqb r.number 0) refl
  where
    by : (b : Bool) → eqb r.number 0 ≡ b
        → (cond b l (record { number = r.number; index = r.index; follows = 0; words = [] })).index ≡ r.index
    by true q = h (eqb-true r.number 0 q)
    by false q = refl

module _ (constants : List ℕ) (rs : List Record) (i : ℕ) (σ : Store) where
  at-number : (o : Option Record) → (look_at constants rs i σ o).number ≡ 0
  at-number none = refl
  at-number (some r) = refl

  at-index : (o : Option Record) → (look_at constants rs i σ o).index ≡ length rs
  at-index none = refl
  at-index (some r) = refl

module _ (listing constants : List ℕ) (σ : Store) (i : ℕ) where
  abbrev rs : List Record
  rs = listed listing constants

  abbrev ruled : Refusal
  ruled = refusal listing (length constants) i (length σ)

  answer-number : (answer listing constants i σ).number ≡ ruled.number
  answer-number =
      ap (λ (a : Answer). a.number) (refused listing constants i σ)
      ∙ number_by ruled σ (play constants (block rs) going (drop i rs) σ)

  same_number : (look listing constants σ i).number ≡ (answer listing constants i σ).number
  unfolding look
  same_number =
      look_number ruled (look_at constants rs i σ (get_elem? rs i)) (at-number constants rs i σ (get_elem? rs i)) ∙ sym answer-number

  same_index : (look listing constants σ i).index ≡ (answer listing constants i σ).index
  unfolding look
  same_index =
      look_index ruled (look_at constants rs i σ (get_elem? rs i))
      (λ z. at-index constants rs i σ (get_elem? rs i) ∙ sym (accepted listing (length constants) i (length σ) z).index)
      ∙ sym
      (ap (λ (a : Answer). a.index) (refused listing constants i σ)
      ∙ index_by ruled σ (play constants (block rs) going (drop i rs) σ))

  -- accepted or refused
  pub looks : ruled.number ≡ 0 → look listing constants σ i ≡ look_at constants rs i σ (get_elem? rs i)
  unfolding look
  looks z = simp (eq-eqb _ _ z)

  pub looks-not : (ruled.number ≡ 0 → ⊥)
      → look listing constants σ i ≡ record { number = ruled.number; index = ruled.index; follows = 0; words = [] }
  unfolding look
  looks-not n = simp (ne_eqb _ _ n)

  -- the play from there
  plays-from : ruled.number ≡ 0
      → answer listing constants i σ ≡ accept (length rs) (play constants (block rs) going (drop i rs) σ)
  plays-from z =
      refused listing constants i σ
      ∙ simp (eq-eqb _ _ z)
      (ap (λ n. accept n (play constants (block rs) going (drop i rs) σ)) (accepted listing (length constants) i (length σ) z).index)

-- nothing refuses from another record either
from-there : {listing : List ℕ} {constants i words : ℕ} (j : ℕ) → Accepted listing constants i words
    → j ≤ length (records constants listing).items → (refusal listing constants j words).number ≡ 0
unfolding refusal
from-there {listing} {constants} {i} {words} j a h =
    let n = length (records constants listing).items in
    simp (le-ltb _ _ a.short, le-ltb _ _ a.few, eq-eqb _ _ a.long, eq-eqb _ _ a.sound, le-ltb _ _ h, a.kept, le-ltb n n (le_refl n))

-- ---- a record at an index

never : {X : Type 0} {A : Type 0} {a : A} → none ≡ some a → X
never e = let z : ◌≡◌ {A = ℕ} 0 1 = cc in absurd (omega arith)

record Rest (rs : List Record) (i : ℕ) (r : Record) : Type 0 where
  pub rest : List Record
  pub same : drop i rs ≡ r ∷ rest

rest_at : (rs : List Record) (i : ℕ) (r : Record) → get_elem? rs i ≡ some r → Rest rs i r
rest_at [] i r e = never e
rest_at (x ∷ rs) zero r e = record { rest = rs; same = cc }
rest_at (x ∷ rs) (suc i) r e = let h = rest_at rs i r e in record { rest = h.rest; same = h.same }

none_at : (rs : List Record) (i : ℕ) → get_elem? rs i ≡ none → length rs ≤ i
none_at [] i e = omega arith
none_at (x ∷ rs) zero e = never (sym e)
none_at (x ∷ rs) (suc i) e = let h = none_at rs i e in omega (arith, h)

pub at_none : (rs : List Record) (i : ℕ) → length rs ≤ i → get_elem? rs i ≡ none
at_none [] i h = refl
at_none (x ∷ rs) zero h = absurd (omega (arith, h))
at_none (x ∷ rs) (suc i) h = at_none rs i (omega (arith, h))

-- ---- one step

pub here : (rs : List Record) (i : ℕ) {r : Record} {rest : List Record} → drop i rs ≡ r ∷ rest → suc i ≤ length rs
here rs i e = let h = ap length e in let k = length-drop i rs in omega (arith, h, k)

before_most : (l : ℕ) (rs : List Record) → before l rs ≤ length rs
before_most l [] = omega arith
before_most l (r ∷ rs) = by (is_label l r) (before_most l rs)
  where
    by : (b : Bool) → before l rs ≤ length rs → cond b 0 (suc (before l rs)) ≤ suc (length rs)
    by true h = omega (arith, h)
    by false h = omega (arith, h)

pub label_within : (rs : List Record) (i l : ℕ) → suc i ≤ length rs → label_from rs (suc i) l ≤ length rs
label_within rs i l h =
    let m = before_most l (drop (suc i) rs) in
    let k = length-drop (suc i) rs in
    omega (arith, h, m, k)

module _ (constants : List ℕ) (rs : List Record) (i : ℕ) (σ : Store) where
  abbrev next : Record → ℕ
  next r = named rs (step_at constants rs i σ r).next

  abbrev left : List Record → Store → End
  left l τ = play constants (block rs) going l τ

  -- outside a call the play goes on with the record that follows
  record Leads (r : Record) : Type 0 where
    pub same : left (drop i rs) σ ≡ ticks 1 (left (drop (next r) rs) (put (step_at constants rs i σ r).writes σ))
    pub on : suc i ≤ next r
    pub within : next r ≤ length rs

  module _ {rest : List Record} where
    -- a Label that is sought behind the record
    sought : (l : ℕ) {r : Record} → drop i rs ≡ r ∷ rest
        → play constants (block rs) (seeking l) rest σ ≡ left (drop (label_from rs (suc i) l) rs) σ
    sought l e =
        seek-play constants (block rs) l rest σ
        ∙ ap (λ l. left l σ) (sym (label_seek rs (suc i) l ∙ ap (seek l) (behind_it rs i e)))

    leads-branch : (l : ℕ) (b : Bool) → eqb l 0 ≡ b → drop i rs ≡ Record.Branch l ∷ rest → Leads (Record.Branch l)
    unfolding play step follows written put ticks
    leads-branch l true q e =
        record {
          same = ap (λ l. left l σ) e ∙ simp q (sym (ap (λ l. ticks 1 (left l σ)) (drop_of_length-le rs (le_refl _))));
          on = simp q (here rs i e);
          within = simp q (le_refl _);
        }
    leads-branch l false q e =
        record {
          same = ap (λ l. left l σ) e ∙ simp q (ap (ticks 1) (sought l e));
          on = simp q (omega arith);
          within = simp q (label_within rs i l (here rs i e));
        }

    leads-if : (c l : ℕ) (x b : Bool) → branches x (at σ c) ≡ b → drop i rs ≡ Record.BranchIf c l x ∷ rest → Leads (Record.BranchIf c l x)
    unfolding play step follows written put ticks
    leads-if c l x true q e =
        record {
          same = ap (λ l. left l σ) e ∙ simp q (ap (ticks 1) (sought l e));
          on = simp q (omega arith);
          within = simp q (label_within rs i l (here rs i e));
        }
    leads-if c l x false q e =
        record {
          same = ap (λ l. left l σ) e ∙ simp q (ap (λ l. ticks 1 (left l σ)) (sym (behind_it rs i e)));
          on = simp q (le_refl _);
          within = simp q (here rs i e);
        }

    leads : (r : Record) → is_call r ≡ false → drop i rs ≡ r ∷ rest → Leads r
    unfolding play step follows written put exec ticks
    leads (Record.Work w) q e =
        record {
          same = ap (λ l. left l σ) e ∙ ap (λ l. ticks 1 (left l (exec constants w σ))) (sym (behind_it rs i e));
          on = le_refl _;
          within = here rs i e;
        }
    leads (Record.Label l) q e =
        record {
          same = ap (λ l. left l σ) e ∙ ap (λ l. ticks 1 (left l σ)) (sym (behind_it rs i e));
          on = le_refl _;
          within = here rs i e;
        }
    leads (Record.Branch l) q e = leads-branch l (eqb l 0) refl e
    leads (Record.Call l) q e = absurd (true≢false q)
    leads (Record.BranchIf c l x) q e = leads-if c l x (branches x (at σ c)) refl e

  -- what is shown of a step
  shows : (r : Record) → ShowsStep constants rs i σ r (look_at constants rs i σ (some r))
  unfolding step written shown
  shows r =
      record {
        store = shown_put (written constants σ r) σ;
        written = shown_written (written constants σ r);
        apart = shown_once (written constants σ r);
        few = shown_few constants σ r;
        quiet = still r;
        follows = refl;
      }
    where
      still : (r : Record) → is_jump r ≡ true → shown (written constants σ r) ≡ []
      still (Record.Work w) j = absurd (true≢false (sym j))
      still (Record.Label l) j = refl
      still (Record.Branch l) j = refl
      still (Record.Call l) j = refl
      still (Record.BranchIf c l x) j = refl

pub looked : Looked look
looked =
    record {
      number = same_number;
      index = same_index;
      refused = λ listing constants σ i n.
          let e = looks-not listing constants σ i (λ z. n (answer-number listing constants σ i ∙ z)) in
          (ap (λ (l : Look). l.words) e, ap (λ (l : Look). l.follows) e);
      ended = λ listing constants σ i z q.
          let y = sym (answer-number listing constants σ i) ∙ z in
          let e = looks listing constants σ i y ∙ ap (look_at constants (listed listing constants) i σ) q in
          let a = (accepted listing (length constants) i (length σ) y).started in
          let b = none_at (listed listing constants) i q in
          (ap (λ (l : Look). l.words) e, ap (λ (l : Look). l.follows) e ∙ omega (arith, a, b));
      steps = λ listing constants σ i r z q.
          let y = sym (answer-number listing constants σ i) ∙ z in
          let e = looks listing constants σ i y ∙ ap (look_at constants (listed listing constants) i σ) q in
          subst (ShowsStep constants (listed listing constants) i σ r) (sym e) (shows constants (listed listing constants) i σ r);
    }

-- ---- looking and writing, again and again

module _ (listing constants : List ℕ) where
  abbrev all : List Record
  all = listed listing constants

  abbrev Fine : ℕ → Store → Type 0
  Fine i σ = (refusal listing (length constants) i (length σ)).number ≡ 0

  -- where the bench stands after one look, and the play from there
  record Onward (i : ℕ) (σ : Store) (l : Look) : Type 0 where
    pub fine : Fine l.follows (put l.words σ)
    pub same : answer listing constants i σ ≡ plays_more 1 (answer listing constants l.follows (put l.words σ))
    pub on : suc i ≤ l.follows

  onward-at : (i : ℕ) (σ : Store) (r : Record) → Fine i σ → get_elem? all i ≡ some r → is_call r ≡ false
      → Onward i σ (look_at constants all i σ (some r))
  unfolding ticks
  onward-at i σ r z q c =
      let ws = (step_at constants all i σ r).writes in
      let e = rest_at all i r q in
      let d = leads constants all i σ r c e.same in
      let k = put-length (shown ws) σ in
      let f : Fine (next constants all i σ r) (put (shown ws) σ) =
      ap (λ w. (refusal listing (length constants) (next constants all i σ r) w).number) k
      ∙ from-there (next constants all i σ r) (accepted listing (length constants) i (length σ) z) d.within in
      record {
        fine = f;
        same = plays-from listing constants σ i z
            ∙ ap (accept (length all)) d.same
            ∙ ap (λ τ. accept (length all) (ticks 1 (left constants all i σ (drop (next constants all i σ r) all) τ))) (sym (shown_put ws σ))
            ∙ sym (ap (plays_more 1) (plays-from listing constants (put (shown ws) σ) (next constants all i σ r) f));
        on = d.on;
      }

  onward : (i : ℕ) (σ : Store) (r : Record) → Fine i σ → get_elem? all i ≡ some r → is_call r ≡ false → Onward i σ (look listing constants σ i)
  onward i σ r z q c =
      subst (Onward i σ) (sym (looks listing constants σ i z ∙ ap (look_at constants all i σ) q)) (onward-at i σ r z q c)

  -- what is known of where the bench stands
  record Stands (n i : ℕ) (σ : Store) (b : Bench) : Type 0 where
    pub plays : answer listing constants i σ ≡ plays_more b.looks (answer listing constants b.at b.store)
    pub stops : length all ≤ n + i → stops_at (get_elem? all b.at) ≡ true

  still : (n i : ℕ) (σ : Store) → (length all ≤ n + i → stops_at (get_elem? all i) ≡ true)
      → Stands n i σ (record { looks = 0; at = i; store = σ })
  still n i σ h =
      let a = answer listing constants i σ in
      record { plays = λ k. record { number = a.number; index = a.index; played = sym (zero-add a.played) k; store = a.store }; stops = h }

  more-more : (m n : ℕ) (a : Answer) → plays_more m (plays_more n a) ≡ plays_more (m + n) a
  more-more m n a = λ k. record { number = a.number; index = a.index; played = sym (add_assoc m n a.played) k; store = a.store }

  one_more : {n i : ℕ} {σ : Store} {l : Look} {b : Bench} → Onward i σ l → Stands n l.follows (put l.words σ) b
      → Stands (suc n) i σ (looks_more b)
  one_more {n} {i} {σ} {l} {b} o s =
      let f = o.on in
      record {
        plays = o.same ∙ ap (plays_more 1) s.plays ∙ more-more 1 b.looks _;
        stops = λ h. s.stops (omega (arith, h, f));
      }

  stands_by : (n i : ℕ) (σ : Store) (o : Option Record) → get_elem? all i ≡ o → Fine i σ
      → ((j : ℕ) (τ : Store) → Fine j τ → Stands n j τ (bench listing constants n j τ))
      → Stands (suc n) i σ
      (cond (stops_at o) (record { looks = 0; at = i; store = σ })
      (looks_more (bench listing constants n (look listing constants σ i).follows (put (look listing constants σ i).words σ))))
  stands_by n i σ none q z on = still (suc n) i σ (λ h. ap stops_at q)
  stands_by n i σ (some r) q z on = by (is_call r) refl
    where
      by : (c : Bool) → is_call r ≡ c
          → Stands (suc n) i σ
          (cond c (record { looks = 0; at = i; store = σ })
          (looks_more (bench listing constants n (look listing constants σ i).follows (put (look listing constants σ i).words σ))))
      by true c = still (suc n) i σ (λ h. ap stops_at q ∙ c)
      by false c = let o = onward i σ r z q c in one_more o (on _ _ o.fine)

  stands : (n i : ℕ) (σ : Store) → Fine i σ → Stands n i σ (bench listing constants n i σ)
  unfolding bench
  stands zero i σ z = still zero i σ (λ h. ap stops_at (at_none all i (omega (arith, h))))
  stands (suc n) i σ z = stands_by n i σ (get_elem? all i) refl z (λ j τ y. stands n j τ y)

pub looked-on : LookedOn bench
looked-on =
    record {
      plays = λ listing constants n i σ z. (stands listing constants n i σ (sym (answer-number listing constants σ i) ∙ z)).plays;
      stops = λ listing constants n i σ z h.
          (stands listing constants n i σ (sym (answer-number listing constants σ i) ∙ z)).stops (omega (arith, h));
    }
