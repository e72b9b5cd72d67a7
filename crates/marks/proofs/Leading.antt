-- A register is marked just where some way leads to a record that draws on it, past none that fills it. Of the jump rules one is used: no
-- label stands twice.
use Prim.Native.Nat.{ℕ, suc, ◌<◌}
use native.Mathlib.Omega.{arith}
use mathlib.Core.Path.{◌≡◌, refl, sym, ◌∙◌}
use mathlib.Core.Bool.{Bool, true, false, not, cond, ◌&&◌, ◌||◌, true≢false}
use mathlib.Core.Logic.{◌⊎◌, ⊎_elim, inl, inr}
use mathlib.Core.List.{List, [], ◌∷◌}
use lib.ListN.{length}
use lib.Dec.{T, ltb, lt→ltb, eqb, eqb→eq, eqb_refl}
use Rattle.mir.specs.declared.records.Work.{Work}
use Rattle.mir.specs.declared.records.Record.{Record}
use Rattle.player_machine.specs.Machine.{is_label, block, Way, going, seeking}
use Rattle.player_machine.specs.Draws.{draws, fills}
use Rattle.mir.proofs.Tables.{and_left, and_right}
use Rattle.player_machine.proofs.Agreeing.{or_cases, or_l, or_r}
use Rattle.player_machine.specs.Jumps.{bit, tally, twice_or_zero, breaks, breach_from, breach}
use Rattle.marks.specs.Marks.{Set, among, everything, without, Marking, start, draw_on, working, through, noted, enter, branch, way, step, scan}
use Rattle.marks.specs.Leads.{DrawnFirst, NoneFilled, Either, Leads, LedTo}
use Rattle.marks.proofs.Growing.{through_more, scan_more, noted_own, noted_less, step_ways}

abbrev pub Not : Bool → Type 0
Not a = T (not a)

not_and_l : (a b : Bool) → Not a → Not (a && b)
not_and_l false b h = tt
not_and_l true b h = elim h [ ]

not_and_r : (a b : Bool) → Not b → Not (a && b)
not_and_r true b h = h
not_and_r false b h = tt

not-or : (a b : Bool) → Not a → Not b → Not (a || b)
not-or false b h k = k
not-or true b h k = elim h [ ]

and-not : (a b : Bool) → T a → Not b → T (a && not b)
and-not true b h k = k
and-not false b h k = elim h [ ]

pub or-none : (a : Bool) → T (a || false) → T a
or-none true h = tt
or-none false h = elim h [ ]

pub clash : (a : Bool) → T a → Not a → ⊥
clash true t h = h
clash false t h = t

-- what does not hold of the one does not hold of what leads to it
not-below : (a b : Bool) → (T a → T b) → Not b → Not a
not-below true b f h = absurd (clash b (f tt) h)
not-below false b f h = tt

nor_l : (a b : Bool) → Not (a || b) → Not a
nor_l false b h = tt
nor_l true b h = elim h [ ]

nor_r : (a b : Bool) → Not (a || b) → Not b
nor_r false b h = h
nor_r true b h = elim h [ ]

both_off : (a b : Bool) → T b → (a || b) ≡ false → ⊥
both_off true b h e = true≢false e
both_off false true h e = true≢false e
both_off false false h e = elim h [ ]

either_true : (q : Bool) (A B : Type 0) → T q → A → Either q A B
either_true true A B t a = a
either_true false A B t a = elim t [ ]

bit_on : (q : Bool) → T q → bit q ≡ 1
bit_on true t = refl
bit_on false t = elim t [ ]

-- the first record breaks no rule, and what follows keeps them
once_by : (before : List Record) (r : Record) (rs : List Record) (q : Bool) → breaks before r rs ≡ q
    → breach_from before (r ∷ rs) ≡ suc (length rs) → (twice_or_zero before r rs ≡ false) × (breach_from (r ∷ before) rs ≡ length rs)
unfolding breach_from breaks
once_by before r rs true t e =
    let z : 0 ≡ suc (length rs) = sym (simp t) ∙ e in
    absurd (omega (arith, z))
once_by before r rs false t e =
    let z : suc (breach_from (r ∷ before) rs) ≡ suc (length rs) = sym (simp t) ∙ e in
    (first_off (twice_or_zero before r rs) _ t, omega (arith, z))
  where
    first_off : (a b : Bool) → (a || b) ≡ false → a ≡ false
    first_off true b e = e
    first_off false b e = refl

once : (before : List Record) (r : Record) (rs : List Record) → breach_from before (r ∷ rs) ≡ suc (length rs)
    → (twice_or_zero before r rs ≡ false) × (breach_from (r ∷ before) rs ≡ length rs)
once before r rs e = once_by before r rs (breaks before r rs) refl e

module _ (b : List Work) (i : ℕ) where
  -- ---- where a way leads, a mark is set

  -- on this way i is not filled
  abbrev Unfilled : Way → Marking → Type 0
  Unfilled going s = Not (s.filled i)
  Unfilled (seeking l) s = Not (s.ways l i)

  through-first : (ws : List Work) (s : Marking) → DrawnFirst i ws → Not (s.filled i) → T ((through ws s).drawn i)
  through-first (w ∷ ws) s (inl d) n =
      through_more ws (working w s) i (or_r (s.drawn i) (without (among (draws w)) s.filled i) (and-not (among (draws w) i) (s.filled i) d n))
  through-first (w ∷ ws) s (inr p) n =
      through-first ws (working w s) p.1 (not-or (s.filled i) (among (fills w) i) n p.0)
  through-first [] s x'' n = elim x'' [ ]

  through-none : (ws : List Work) (s : Marking) → NoneFilled i ws → Not (s.filled i) → Not ((through ws s).filled i)
  through-none [] s p n = n
  through-none (w ∷ ws) s p n = through-none ws (working w s) p.1 (not-or (s.filled i) (among (fills w) i) n p.0)

  un-own : (l : ℕ) (A : Set) (ways : ℕ → Set) → Not (A i) → Not (noted l A ways l i)
  un-own l A ways n = not-below (noted l A ways l i) (A i) (λ t. noted_own l A ways i t) n

  un-less : (l : ℕ) (A : Set) (ways : ℕ → Set) (m : ℕ) → Not (ways m i) → Not (noted l A ways m i)
  un-less l A ways m n = not-below (noted l A ways m i) (ways m i) (λ t. noted_less l A ways m i t) n

  kept : (q : Bool) (F : Set) → Not q → Not (F i) → Not (cond {A = Set} q everything F i)
  kept false F h n = n
  kept true F h n = elim h [ ]

  un-kept : (q : Bool) (F : Set) → Not (cond {A = Set} q everything F i) → Not q × Not (F i)
  un-kept false F n = (tt, n)
  un-kept true F n = elim n [ ]

  leads-marked : (rs : List Record) (way : Way) (s : Marking) → Leads b i way rs → Unfilled way s → T ((scan b rs s).drawn i)
  unfolding Leads step scan
  leads-marked [] going s h n = absurd h
  leads-marked (Record.Work w ∷ rs) going s (inl d) n =
      scan_more b rs (working w s) i (or_r (s.drawn i) (without (among (draws w)) s.filled i) (and-not (among (draws w) i) (s.filled i) d n))
  leads-marked (Record.Work w ∷ rs) going s (inr p) n =
      leads-marked rs going (working w s) p.1 (not-or (s.filled i) (among (fills w) i) n p.0)
  leads-marked (Record.Label l ∷ rs) going s h n = leads-marked rs going (enter l s) h (not_and_l (s.filled i) (s.ways l i) n)
  leads-marked (Record.Branch l ∷ rs) going s (inl h) n =
      leads-marked rs (seeking l) (branch l s) h (un-own l s.filled s.ways n)
  leads-marked (Record.Branch l ∷ rs) going s (inr p) n = leads-marked rs going (branch l s) p.1 (kept (ltb l 3) s.filled p.0 n)
  leads-marked (Record.Call l ∷ rs) going s (inl d) n = scan_more b rs (through b s) i (through-first b s d n)
  leads-marked (Record.Call l ∷ rs) going s (inr p) n = leads-marked rs going (through b s) p.1 (through-none b s p.0 n)
  leads-marked (Record.BranchIf c l e ∷ rs) going s (inl d) n =
      scan_more b rs (way l (draw_on (c ∷ []) s)) i
      (or_r (s.drawn i) (without (among (c ∷ [])) s.filled i) (and-not (among (c ∷ []) i) (s.filled i) (or_l (eqb i c) false d) n))
  leads-marked (Record.BranchIf c l e ∷ rs) going s (inr (inl h)) n =
      leads-marked rs (seeking l) (way l (draw_on (c ∷ []) s)) h (un-own l s.filled s.ways n)
  leads-marked (Record.BranchIf c l e ∷ rs) going s (inr (inr h)) n = leads-marked rs going (way l (draw_on (c ∷ []) s)) h n
  leads-marked [] (seeking l) s h n = absurd h
  leads-marked (Record.Work w ∷ rs) (seeking l) s h n = leads-marked rs (seeking l) (working w s) h n
  leads-marked (Record.Label m ∷ rs) (seeking l) s h n =
      go (eqb m l) refl h (leads-marked rs going (enter m s)) (λ k. leads-marked rs (seeking l) (enter m s) k n)
    where
      go : (q : Bool) → eqb m l ≡ q → Either q (Leads b i going rs) (Leads b i (seeking l) rs)
          → (Leads b i going rs → Not (s.filled i && s.ways m i) → T ((scan b rs (enter m s)).drawn i))
          → (Leads b i (seeking l) rs → T ((scan b rs (enter m s)).drawn i)) → T ((scan b rs (enter m s)).drawn i)
      go true q h on past = on h (not_and_r (s.filled i) (s.ways m i) (rw (eqb→eq m l (rw q tt)) n))
      go false q h on past = past h
  leads-marked (Record.Branch m ∷ rs) (seeking l) s h n =
      leads-marked rs (seeking l) (branch m s) h (un-less m s.filled s.ways l n)
  leads-marked (Record.Call m ∷ rs) (seeking l) s h n =
      leads-marked rs (seeking l) (through b s) h (not-below ((through b s).ways l i) (s.ways l i) (λ t. step_ways b (Record.Call m) s l i t) n)
  leads-marked (Record.BranchIf c m e ∷ rs) (seeking l) s h n =
      leads-marked rs (seeking l) (way m (draw_on (c ∷ []) s)) h (un-less m s.filled s.ways l n)

  -- ---- where a mark is set, a way leads

  -- behind a Label m none stands that a branch to m could reach
  alone_at : (m k : ℕ) (rs before : List Record) (q : Bool) → eqb k m ≡ q → twice_or_zero before (Record.Label k) rs ≡ false
      → 0 < tally (is_label m) before → (Leads b i (seeking m) rs → ⊥) → Either q (Leads b i going rs) (Leads b i (seeking m) rs) → ⊥
  unfolding twice_or_zero
  alone_at m k rs before true q t h on d =
      let e = eqb→eq k m (rw q tt) in
      let z : (eqb m 0 || ltb 0 (tally (is_label m) before)) ≡ false = rw e at t in
      both_off (eqb m 0) (ltb 0 (tally (is_label m) before)) (lt→ltb 0 (tally (is_label m) before) h) z
  alone_at m k rs before false q t h on d = on d

  alone : (m : ℕ) (rs before : List Record) → breach_from before rs ≡ length rs → 0 < tally (is_label m) before → Leads b i (seeking m) rs → ⊥
  unfolding Leads tally
  alone m [] before e h d = d
  alone m (Record.Work w ∷ rs) before e h d =
      alone m rs (Record.Work w ∷ before) (once before (Record.Work w) rs e).1 (omega arith) d
  alone m (Record.Label k ∷ rs) before e h d =
      let f = once before (Record.Label k) rs e in
      alone_at m k rs before (eqb k m) refl f.0 h (alone m rs (Record.Label k ∷ before) f.1 (omega arith)) d
  alone m (Record.Branch k ∷ rs) before e h d =
      alone m rs (Record.Branch k ∷ before) (once before (Record.Branch k) rs e).1 (omega arith) d
  alone m (Record.Call k ∷ rs) before e h d =
      alone m rs (Record.Call k ∷ before) (once before (Record.Call k) rs e).1 (omega arith) d
  alone m (Record.BranchIf c k x ∷ rs) before e h d =
      alone m rs (Record.BranchIf c k x ∷ before) (once before (Record.BranchIf c k x) rs e).1 (omega arith) d

  -- why a mark is set after these records: it was set before, or a way leads to a record that draws on i, from here or from a branch before
  data Why (s : Marking) (rs : List Record) : Type 0 where
    old : T (s.drawn i) → Why s rs
    here : Not (s.filled i) → Leads b i going rs → Why s rs
    sent : (l : ℕ) → Not (s.ways l i) → Leads b i (seeking l) rs → Why s rs

  pub through-old : (ws : List Work) (s : Marking) → T ((through ws s).drawn i) → T (s.drawn i) ⊎ (Not (s.filled i) × DrawnFirst i ws)
  through-old [] s t = inl t
  through-old (w ∷ ws) s t = go (through-old ws (working w s) t)
    where
      go : T ((working w s).drawn i) ⊎ (Not ((working w s).filled i) × DrawnFirst i ws) → T (s.drawn i) ⊎ (Not (s.filled i) × DrawnFirst i (w ∷ ws))
      go (inl t) =
          ⊎_elim (λ a. inl a) (λ c. inr (and_right (among (draws w) i) (not (s.filled i)) c, inl (and_left (among (draws w) i) (not (s.filled i)) c)))
          (or_cases (s.drawn i) (without (among (draws w)) s.filled i) t)
      go (inr p) = inr (nor_l (s.filled i) (among (fills w) i) p.0, inr (nor_r (s.filled i) (among (fills w) i) p.0, p.1))

  through_here : (ws : List Work) (s : Marking) → Not ((through ws s).filled i) → Not (s.filled i) × NoneFilled i ws
  through_here [] s n = (n, tt)
  through_here (w ∷ ws) s n =
      let p = through_here ws (working w s) n in
      (nor_l (s.filled i) (among (fills w) i) p.0, (nor_r (s.filled i) (among (fills w) i) p.0, p.1))

  through-sent : (ws : List Work) (s : Marking) (l : ℕ) → Not ((through ws s).ways l i) → Not (s.ways l i)
  through-sent [] s l n = n
  through-sent (w ∷ ws) s l n = through-sent ws (working w s) l n

  un-noted : (l : ℕ) (A : Set) (ways : ℕ → Set) (k : ℕ) → Not (noted l A ways k i) → Not (ways k i) ⊎ ((k ≡ l) × Not (A i))
  un-noted l A ways k n = go (eqb k l) refl n
    where
      split : (a c : Bool) → k ≡ l → Not (a && c) → Not a ⊎ ((k ≡ l) × Not c)
      split true c e n = inr (e, n)
      split false c e n = inl tt

      go : (q : Bool) → eqb k l ≡ q → Not (cond {A = Set} q (λ j. ways k j && A j) (ways k) i) → Not (ways k i) ⊎ ((k ≡ l) × Not (A i))
      go true q n = split (ways k i) (A i) (eqb→eq k l (rw q tt)) n
      go false q n = inl n

  back-work : (w : Work) (rs : List Record) (s : Marking) → Why (working w s) rs → Why s (Record.Work w ∷ rs)
  unfolding Leads
  back-work w rs s (old t) =
      ⊎_elim (λ a. old a) (λ c. here (and_right (among (draws w) i) (not (s.filled i)) c) (inl (and_left (among (draws w) i) (not (s.filled i)) c)))
      (or_cases (s.drawn i) (without (among (draws w)) s.filled i) t)
  back-work w rs s (here n d) = here (nor_l (s.filled i) (among (fills w) i) n) (inr (nor_r (s.filled i) (among (fills w) i) n, d))
  back-work w rs s (sent l n d) = sent l n d

  back-call : (l : ℕ) (rs : List Record) (s : Marking) → Why (through b s) rs → Why s (Record.Call l ∷ rs)
  unfolding Leads
  back-call l rs s (old t) = ⊎_elim (λ a. old a) (λ c. here c.0 (inl c.1)) (through-old b s t)
  back-call l rs s (here n d) = let p = through_here b s n in here p.0 (inr (p.1, d))
  back-call l rs s (sent k n d) = sent k (through-sent b s k n) d

  back-label : (m : ℕ) (rs : List Record) (s : Marking) → (Leads b i (seeking m) rs → ⊥) → Why (enter m s) rs → Why s (Record.Label m ∷ rs)
  unfolding Leads
  back-label m rs s f (old t) = old t
  back-label m rs s f (here n d) = go (s.filled i) refl n
    where
      go : (a : Bool) → s.filled i ≡ a → Not (a && s.ways m i) → Why s (Record.Label m ∷ rs)
      go true e n = sent m n (either_true (eqb m m) (Leads b i going rs) (Leads b i (seeking m) rs) (eqb_refl m) d)
      go false e n = here (rw e tt) d
  back-label m rs s f (sent k n d) = sent k n (go (eqb m k) refl)
    where
      go : (q : Bool) → eqb m k ≡ q → Either q (Leads b i going rs) (Leads b i (seeking k) rs)
      go true q = absurd (f (rw (eqb→eq m k (rw q tt)) d))
      go false q = d

  back-branch : (l : ℕ) (rs : List Record) (s : Marking) → Why (branch l s) rs → Why s (Record.Branch l ∷ rs)
  unfolding Leads
  back-branch l rs s (old t) = old t
  back-branch l rs s (here n d) = let p = un-kept (ltb l 3) s.filled n in here p.1 (inr (p.0, d))
  back-branch l rs s (sent k n d) =
      ⊎_elim (λ a. sent k a d) (λ p. here p.1 (inl (rw p.0 at d))) (un-noted l s.filled s.ways k n)

  back-if : (c l : ℕ) (e : Bool) (rs : List Record) (s : Marking) → Why (way l (draw_on (c ∷ []) s)) rs → Why s (Record.BranchIf c l e ∷ rs)
  unfolding Leads
  back-if c l e rs s (old t) =
      ⊎_elim (λ a. old a) (λ k. here (and_right (among (c ∷ []) i) (not (s.filled i)) k) (inl (or-none (eqb i c) (and_left (among (c ∷ []) i) (not (s.filled i)) k))))
      (or_cases (s.drawn i) (without (among (c ∷ [])) s.filled i) t)
  back-if c l e rs s (here n d) = here n (inr (inr d))
  back-if c l e rs s (sent k n d) =
      ⊎_elim (λ a. sent k a d) (λ p. here p.1 (inr (inl (rw p.0 at d)))) (un-noted l s.filled s.ways k n)

  marked-leads : (rs before : List Record) (s : Marking) → breach_from before rs ≡ length rs → T ((scan b rs s).drawn i) → Why s rs
  unfolding step scan tally is_label
  marked-leads [] before s e t = old t
  marked-leads (Record.Work w ∷ rs) before s e t =
      back-work w rs s (marked-leads rs (Record.Work w ∷ before) (working w s) (once before (Record.Work w) rs e).1 t)
  marked-leads (Record.Label m ∷ rs) before s e t =
      let k = (once before (Record.Label m) rs e).1 in
      let o : 0 < tally (is_label m) (Record.Label m ∷ before) = let q = bit_on (eqb m m) (eqb_refl m) in omega (arith, q) in
      back-label m rs s (alone m rs (Record.Label m ∷ before) k o) (marked-leads rs (Record.Label m ∷ before) (enter m s) k t)
  marked-leads (Record.Branch l ∷ rs) before s e t =
      back-branch l rs s (marked-leads rs (Record.Branch l ∷ before) (branch l s) (once before (Record.Branch l) rs e).1 t)
  marked-leads (Record.Call l ∷ rs) before s e t =
      back-call l rs s (marked-leads rs (Record.Call l ∷ before) (through b s) (once before (Record.Call l) rs e).1 t)
  marked-leads (Record.BranchIf c l x ∷ rs) before s e t =
      back-if c l x rs s
      (marked-leads rs (Record.BranchIf c l x ∷ before) (way l (draw_on (c ∷ []) s)) (once before (Record.BranchIf c l x) rs e).1 t)

pub led-to : LedTo
unfolding breach
led-to rs i e = (λ t. go (marked-leads (block rs) i rs [] start e t), λ d. leads-marked (block rs) i rs going start d tt)
  where
    go : Why (block rs) i start rs → Leads (block rs) i going rs
    go (old t) = absurd t
    go (here n d) = d
    go (sent l n d) = absurd n
