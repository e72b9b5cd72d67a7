-- The machine by steps (specs/Step.antt) plays as the machine of specs/Machine.antt does, in a listing that keeps the jump rules.
use Prim.Native.Nat.{ℕ, zero, suc, ◌+◌, ◌*◌, ◌-◌, ◌≤◌, ◌<◌}
use native.Mathlib.Omega.{arith}
use native.Mathlib.Nat.{zero-add, add-zero, add_assoc, le_refl}
use mathlib.Core.Path.{◌≡◌, refl, sym, ap, ◌∙◌}
use mathlib.Core.Bool.{Bool, true, false, cond}
use mathlib.Core.List.{List, [], ◌∷◌}
use mathlib.Core.Option.{Option, none, some}
use lib.ListN.{length, drop, get_elem?}
use lib.Seq.{drop-drop}
use lib.Dec.{eqb}
use Rattle.mir.specs.declared.records.Work.{Work}
use Rattle.mir.specs.declared.records.Record.{Record}
use Rattle.player_machine.specs.Machine.{Store, at, put, exec, execs, is_label, seek, block, branches, End, ticks, going, seeking, play}
use Rattle.player_machine.specs.Jumps.{tally, breach}
use Rattle.player_machine.specs.Count.{most}
use Rattle.player_machine.specs.Step.{PlayState, before, label_from, then, end, follows, written, step, after, reached, steps, PlaysBySteps}
use Rattle.player_machine.proofs.Seeking.{seek-play}
use Rattle.player_machine.proofs.Bound.{bound-drop}
use Rattle.player_machine.proofs.Keeping.{RulesKept, kept_tail, kept_seek, kept_drop, kept_call, worked, Shaped, shaped}

-- the record at an index is the first of those from it on
abbrev pub head? : List Record → Option Record
head? [] = none
head? (r ∷ rs) = some r

pub at_head : (rs : List Record) (i : ℕ) → get_elem? rs i ≡ head? (drop i rs)
at_head [] zero = refl
at_head [] (suc i) = refl
at_head (r ∷ rs) zero = refl
at_head (r ∷ rs) (suc i) = at_head rs i

drop-suc : (rs : List Record) (i : ℕ) → drop (suc i) rs ≡ drop 1 (drop i rs)
drop-suc [] zero = refl
drop-suc [] (suc i) = refl
drop-suc (r ∷ rs) zero = refl
drop-suc (r ∷ rs) (suc i) = drop-suc rs i

pub behind_it : {r : Record} {rest : List Record} (rs : List Record) (i : ℕ) → drop i rs ≡ r ∷ rest → drop (suc i) rs ≡ rest
behind_it rs i e = drop-suc rs i ∙ ap (drop 1) e

-- the index of a Label
before_by : (l : ℕ) (r : Record) (rs : List Record) (x : Bool) → is_label l r ≡ x → drop (before l rs) rs ≡ seek l rs
    → drop (before l (r ∷ rs)) (r ∷ rs) ≡ seek l (r ∷ rs)
unfolding seek
before_by l r rs true e h = simp e
before_by l r rs false e h = simp e h

before_seek : (l : ℕ) (rs : List Record) → drop (before l rs) rs ≡ seek l rs
unfolding seek
before_seek l [] = refl
before_seek l (r ∷ rs) = before_by l r rs (is_label l r) refl (before_seek l rs)

pub label_seek : (rs : List Record) (n l : ℕ) → drop (label_from rs n l) rs ≡ seek l (drop n rs)
label_seek rs n l = sym (drop-drop (before l (drop n rs)) n rs) ∙ before_seek l (drop n rs)

ticks-ticks : (m n : ℕ) (e : End) → ticks m (ticks n e) ≡ ticks (m + n) e
unfolding ticks
ticks-ticks m n e = λ i. record { store = e.store; played = sym (add_assoc m n e.played) i }

-- n steps behind a block's working records and its Branch 0
abbrev later : List Work → ℕ → ℕ
later [] n = suc n
later (w ∷ ws) n = suc (later ws n)

later_length : (ws : List Work) (n : ℕ) → later ws n ≡ n + suc (length ws)
later_length [] n = omega arith
later_length (w ∷ ws) n = let h = later_length ws n in omega (arith, h)

module _ (constants : List ℕ) (rs : List Record) where
  -- a play that stands at an index, in a call or not
  abbrev from : ℕ → ℕ → Option ℕ → Store → End
  from n i back σ = steps constants rs n (record { at = i; back = back; store = σ })

  stands : (n i : ℕ) (back : Option ℕ) (σ : Store) {r : Record} {rest : List Record} → drop i rs ≡ r ∷ rest
      → from (suc n) i back σ
      ≡ after (λ t. steps constants rs n t) (put (written constants σ r) σ) (follows rs (record { at = i; back = back; store = σ }) r)
  unfolding steps step
  stands n i back σ e =
      ap (reached constants rs (λ t. steps constants rs n t) (record { at = i; back = back; store = σ })) (at_head rs i ∙ ap head? e)

  stands-end : (n i : ℕ) (back : Option ℕ) (σ : Store) → drop i rs ≡ [] → from n i back σ ≡ record { store = σ; played = 0 }
  unfolding steps
  stands-end zero i back σ e = refl
  stands-end (suc n) i back σ e =
      ap (reached constants rs (λ t. steps constants rs n t) (record { at = i; back = back; store = σ })) (at_head rs i ∙ ap head? e)

  -- the block from an index on, up to the return
  in_block : (ws : List Work) (n i j : ℕ) (σ : Store) (rest : List Record) → drop i rs ≡ worked ws (Record.Branch 0 ∷ rest)
      → from (later ws n) i (some j) σ ≡ ticks (suc (length ws)) (from n j none (execs constants ws σ))
  unfolding written follows put exec execs
  in_block [] n i j σ rest e = stands n i (some j) σ e
  in_block (w ∷ ws) n i j σ rest e =
      stands (later ws n) i (some j) σ e
      ∙ ap (ticks 1) (in_block ws n (suc i) j (exec constants w σ) rest (behind_it rs i e))
      ∙ ticks-ticks 1 (suc (length ws)) _
      ∙ ap (λ k. ticks k (from n j none (execs constants ws (exec constants w σ)))) (omega arith)

  -- a Call's Label 1, the block and its Branch 0
  in-call : (n j : ℕ) (σ : Store) → Shaped rs
      → from (suc (later (block rs) n)) (label_from rs 0 1) (some j) σ
      ≡ ticks (2 + length (block rs)) (from n j none (execs constants (block rs) σ))
  unfolding written follows put
  in-call n j σ s =
      let e = label_seek rs 0 1 ∙ s.same in
      stands (later (block rs) n) (label_from rs 0 1) (some j) σ e
      ∙ ap (ticks 1) (in_block (block rs) n (suc (label_from rs 0 1)) j σ s.rest (behind_it rs (label_from rs 0 1) e))
      ∙ ticks-ticks 1 (suc (length (block rs))) _
      ∙ ap (λ k. ticks k (from n j none (execs constants (block rs) σ))) (omega arith)

  -- the play of the records that are left, outside a call
  abbrev left : List Record → Store → End
  left rest σ = play constants (block rs) going rest σ

  -- a record reached, with what it leaves and what follows it outside a call
  one : (i x j : ℕ) {r : Record} {rest : List Record} (σ τ : Store) (u : End) → drop i rs ≡ r ∷ rest
      → put (written constants σ r) σ ≡ τ → follows rs (record { at = i; back = none; store = σ }) r ≡ then j none
      → from (x + u.played) j none τ ≡ u → from (x + (ticks 1 u).played) i none σ ≡ ticks 1 u
  unfolding ticks
  one i x j {r} σ τ u e w f h =
      let q : x + (1 + u.played) ≡ suc (x + u.played) = omega arith in
      ap (λ n. from n i none σ) q
      ∙ stands (x + u.played) i none σ e
      ∙ ap (after (λ t. steps constants rs (x + u.played) t) (put (written constants σ r) σ)) f
      ∙ ap (λ υ. ticks 1 (from (x + u.played) j none υ)) w
      ∙ ap (ticks 1) h

  -- a Label that is sought behind an index
  sought : (i x l : ℕ) (rest : List Record) (σ : Store)
      → from (x + (left (seek l rest) σ).played) (label_from rs (suc i) l) none σ ≡ left (seek l rest) σ
      → from (x + (play constants (block rs) (seeking l) rest σ).played) (label_from rs (suc i) l) none σ
      ≡ play constants (block rs) (seeking l) rest σ
  sought i x l rest σ h =
      let p = seek-play constants (block rs) l rest σ in
      ap (λ (u : End). from (x + u.played) (label_from rs (suc i) l) none σ) p ∙ h ∙ sym p

  same_branch : (i x l : ℕ) (rest : List Record) (σ : Store) (t : Bool) → eqb l 0 ≡ t → drop i rs ≡ Record.Branch l ∷ rest
      → from (x + (left (seek l rest) σ).played) (label_from rs (suc i) l) none σ ≡ left (seek l rest) σ
      → from (x + (left (Record.Branch l ∷ rest) σ).played) i none σ ≡ left (Record.Branch l ∷ rest) σ
  unfolding play written follows put
  same_branch i x l rest σ true t e h =
      let q : x + 1 ≡ suc x = omega arith in
      simp t (ap (λ n. from n i none σ) q ∙ stands x i none σ e ∙ simp t)
  same_branch i x l rest σ false t e h =
      simp t (one i x (label_from rs (suc i) l) σ σ (play constants (block rs) (seeking l) rest σ) e refl (simp t) (sought i x l rest σ h))

  same-branch-if : (i x c l : ℕ) (b : Bool) (rest : List Record) (σ : Store) (t : Bool) → branches b (at σ c) ≡ t
      → drop i rs ≡ Record.BranchIf c l b ∷ rest
      → from (x + (left (seek l rest) σ).played) (label_from rs (suc i) l) none σ ≡ left (seek l rest) σ
      → from (x + (left rest σ).played) (suc i) none σ ≡ left rest σ
      → from (x + (left (Record.BranchIf c l b ∷ rest) σ).played) i none σ ≡ left (Record.BranchIf c l b ∷ rest) σ
  unfolding play written follows put
  same-branch-if i x c l b rest σ true t e h k =
      simp t (one i x (label_from rs (suc i) l) σ σ (play constants (block rs) (seeking l) rest σ) e refl (simp t) (sought i x l rest σ h))
  same-branch-if i x c l b rest σ false t e h k = simp t (one i x (suc i) σ σ (left rest σ) e refl (simp t) k)

  seek-length : (l : ℕ) (rest : List Record) → length (seek l rest) ≤ length rest
  unfolding seek
  seek-length l [] = le_refl 0
  seek-length l (r ∷ rest) = seek-shorter (is_label l r) (seek-length l rest)
    where
      seek-shorter : (b : Bool) → length (seek l rest) ≤ length rest → length (cond b (r ∷ rest) (seek l rest)) ≤ suc (length rest)
      seek-shorter true h = le_refl _
      seek-shorter false h = omega (arith, h)

  module _ (ones : ℕ) (block-shape : 0 < ones → Shaped rs) where
    same : (g i x : ℕ) (rest : List Record) (σ : Store) → length rest ≤ g → drop i rs ≡ rest → RulesKept ones rest
        → from (x + (left rest σ).played) i none σ ≡ left rest σ
    unfolding play written follows put exec ticks
    same zero i x [] σ h e k = stands-end _ i none σ e
    same zero i x (r ∷ rest) σ h e k = absurd (omega (arith, h))
    same (suc g) i x [] σ h e k = stands-end _ i none σ e
    same (suc g) i x (Record.Work w ∷ rest) σ h e k =
        let τ = exec constants w σ in
        one i x (suc i) σ τ (left rest τ) e refl refl (same g (suc i) x rest τ (omega (arith, h)) (behind_it rs i e) (kept_tail k))
    same (suc g) i x (Record.Label l ∷ rest) σ h e k =
        one i x (suc i) σ σ (left rest σ) e refl refl (same g (suc i) x rest σ (omega (arith, h)) (behind_it rs i e) (kept_tail k))
    same (suc g) i x (Record.Branch l ∷ rest) σ h e k =
        let m = seek-length l rest in
        same_branch i x l rest σ (eqb l 0) refl e
        (same g (label_from rs (suc i) l) x (seek l rest) σ (omega (arith, h, m))
        (label_seek rs (suc i) l ∙ ap (seek l) (behind_it rs i e)) (kept_seek ones l rest (kept_tail k)))
    same (suc g) i x (Record.Call l ∷ rest) σ h e k =
        let c = kept_call k in
        let b = length (block rs) in
        let τ = execs constants (block rs) σ in
        let p = (left rest τ).played in
        let f = later_length (block rs) (x + p) in
        let q : x + (3 + b + p) ≡ suc (suc (later (block rs) (x + p))) = omega (arith, f) in
        ap (λ n. from n i none σ) q
        ∙ stands (suc (later (block rs) (x + p))) i none σ e
        ∙ ap (λ m. ticks 1 (from (suc (later (block rs) (x + p))) (label_from rs 0 m) (some (suc i)) σ)) c.label
        ∙ ap (ticks 1) (in-call (x + p) (suc i) σ (block-shape c.some))
        ∙ ticks-ticks 1 (2 + b) _
        ∙ ap (ticks (1 + (2 + b))) (same g (suc i) x rest τ (omega (arith, h)) (behind_it rs i e) (kept_tail k))
        ∙ ap (λ n. ticks n (left rest τ)) (omega arith)
    same (suc g) i x (Record.BranchIf c l b ∷ rest) σ h e k =
        let m = seek-length l rest in
        same-branch-if i x c l b rest σ (branches b (at σ c)) refl e
        (same g (label_from rs (suc i) l) x (seek l rest) σ (omega (arith, h, m))
        (label_seek rs (suc i) l ∙ ap (seek l) (behind_it rs i e)) (kept_seek ones l rest (kept_tail k)))
        (same g (suc i) x rest σ (omega (arith, h)) (behind_it rs i e) (kept_tail k))

-- both renderings give the same play
pub by-steps : PlaysBySteps most
unfolding breach tally
by-steps constants rs start n σ e h =
    let ones = tally (is_label 1) rs in
    let p = (play constants (block rs) going (drop start rs) σ).played in
    let b = bound-drop constants (block rs) start rs σ in
    let q : n ≡ n - p + p = omega (arith, b, h) in
    ap (λ m. steps constants rs m (record { at = start; back = none; store = σ })) q
    ∙ same constants rs ones (λ t. shaped [] rs e t) (length (drop start rs)) start (n - p) (drop start rs) σ (le_refl _) refl
    (kept_drop ones start rs (record { before = []; none = e; ones = zero-add ones }))
