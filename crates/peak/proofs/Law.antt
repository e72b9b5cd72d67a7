-- What stands at each position is the earliest of the largest in its window: `PeakLaw`. A window grows by one word in front. Assumes nothing.
use Prim.Native.Nat.{ℕ, zero, suc, ◌+◌, ◌-◌, ◌≤◌, ◌<◌}
use mathlib.Core.Path.{◌≡◌, refl, sym, ap, ◌∙◌, subst}
use mathlib.Core.Bool.{Bool, true, false, ◌||◌, cond, true≢false}
use mathlib.Core.List.{List, [], ◌∷◌}
use mathlib.Core.Logic.{inl, inr}
use native.Mathlib.Nat.{eq-or-lt_of_le}
use native.Mathlib.Numerals.{add-one}
use native.Mathlib.Omega.{arith}
use borrow.Author.Tests.{ltb-true, ltb-false, ne_eqb, le-ltb}
use lib.Dec.{ltb}
use lib.ListN.{length, drop, get_or, get_or-append}
use lib.Seq.{slice, get_or_at}
use lib.Ieee.{Float, is_nan, lt, of_bits}
use Rattle.float.specs.Word.{value}
use Rattle.float.proofs.Order.{not_below_through, not-above, not_below_self, not_below_nan}
use Rattle.peak.specs.Peak.{larger, none, largest, window, peaks, filled, refused, after}
use Rattle.peak.specs.Laws.{InWindow, reading, IsPeak, Given, PeakLaw}
use Rattle.peak.specs.Laws.Given.{found, nothing}
use Rattle.peak.proofs.Windows.{largest_cons, largest_none, length-peaks}
use Rattle.peak.proofs.Refusals.{neither, taken}

-- ---- one word more in front
module _ (run : List ℕ) (w i : ℕ) (h : w ≤ i) where
  abbrev f : ℕ
  f = i - w

  abbrev x : Float
  x = reading run f

  grown : (P : ℕ → Type 0) → P f → ((k : ℕ) → InWindow w i k → P k) → (k : ℕ) → InWindow (w + 1) i k → P k
  grown P here all k b = elim (eq-or-lt_of_le {n = f} {m = k} (omega (arith, b.1))) [
    | inl e ↦ subst P e here
    | inr l ↦ all k (b.0, omega arith)
  ]

  -- the word in front is a NaN, or below the largest of the others
  kept : (j : ℕ) → IsPeak run w i j → lt (reading run j) x ≡ false → (is_nan x ≡ false → lt x (reading run j) ≡ true) → IsPeak run (w + 1) i j
  kept j p above below =
      record {
        within = (p.within.0, omega (arith, p.within.1));
        number = p.number;
        largest = grown (λ k. lt (reading run j) (reading run k) ≡ false) above p.largest;
        earliest =
            grown (λ k. k < j → is_nan (reading run k) ≡ false → lt (reading run k) (reading run j) ≡ true) (λ l n. below n) p.earliest;
      }

  -- it is a number, and none of the others is above it
  front : is_nan x ≡ false → ((k : ℕ) → InWindow w i k → lt x (reading run k) ≡ false) → IsPeak run (w + 1) i f
  front n all =
      record {
        within = (omega arith, omega arith);
        number = n;
        largest = grown (λ k. lt x (reading run k) ≡ false) (not_below_self x) all;
        earliest = λ k b l m. absurd (omega (arith, b.1));
      }

  more : {y : ℕ} → Given run w i y → Given run (w + 1) i (larger (get_or run f 0) y)
  unfolding larger is_nan of_bits
  more (found j p) = go (is_nan x) (lt x (reading run j)) refl refl
    where
      go : (n t : Bool) → is_nan x ≡ n → lt x (reading run j) ≡ t → Given run (w + 1) i (cond (n || t) (get_or run j 0) (get_or run f 0))
      go true t e l = found j (kept j p (not_below_nan (reading run j) x e) (λ m. absurd (true≢false (sym e ∙ m))))
      go false true e l = found j (kept j p (not-above x (reading run j) l) (λ m. l))
      go false false e l = found f (front e (λ k b. not_below_through x (reading run j) (reading run k) p.number l (p.largest k b)))
  more (nothing all) = go (is_nan x) (lt x (value none)) refl refl
    where
      go : (n t : Bool) → is_nan x ≡ n → lt x (value none) ≡ t → Given run (w + 1) i (cond (n || t) none (get_or run f 0))
      go true t e l = nothing (grown (λ k. is_nan (reading run k) ≡ true) e all)
      go false true e l = absurd (true≢false (sym l ∙ not_below_nan x (value none) refl))
      go false false e l = found f (front e (λ k b. not_below_nan x (reading run k) (all k b)))

-- ---- a window that is no longer than what there is
by-words : (run : List ℕ) (i : ℕ) → i < length run → (w : ℕ) → w ≤ i + 1 → Given run w i (largest (slice (i + 1 - w) (i + 1) run))
by-words run i h zero k =
    let z : i + 1 ≡ i + 1 - 0 = omega arith in
    subst (λ y. Given run 0 i y) (largest_none (i + 1) run ∙ ap (λ f. largest (slice f (i + 1) run)) z) (nothing (λ k b. absurd (omega (arith, b.0, b.1))))
by-words run i h (suc w) k =
    let e : i - w ≡ i + 1 - suc w = omega arith in
    let g : i - w + 1 ≡ i + 1 - w = omega arith in
    let c : larger (get_or run (i - w) 0) (largest (slice (i + 1 - w) (i + 1) run)) ≡ largest (slice (i + 1 - suc w) (i + 1) run) =
    ap (λ f. larger (get_or run (i - w) 0) (largest (slice f (i + 1) run))) (sym g)
    ∙ largest_cons (i - w) (i + 1) run (omega arith) (omega arith)
    ∙ ap (λ f. largest (slice f (i + 1) run)) e in
    subst (λ y. Given run (suc w) i y) c
    (subst (λ n. Given run n i (larger (get_or run (i - w) 0) (largest (slice (i + 1 - w) (i + 1) run)))) (add-one w)
    (more run w i (omega arith) (by-words run i h w (omega arith))))

-- an early one is that of all positions up to it
wider : (run : List ℕ) (w i : ℕ) → i < w → {y : ℕ} → Given run (i + 1) i y → Given run w i y
wider run w i h (found j p) =
    found j
    (record {
      within = (p.within.0, omega arith);
      number = p.number;
      largest = λ k b. p.largest k (b.0, omega arith);
      earliest = λ k b l m. p.earliest k (b.0, omega arith) l m;
    })
wider run w i h (nothing all) = nothing (λ k b. all k (b.0, omega arith))

of_window : (run : List ℕ) (w i : ℕ) → i < length run → Given run w i (largest (window run w i))
of_window run w i h = go (ltb i w) refl
  where
    go : (t : Bool) → ltb i w ≡ t → Given run w i (largest (window run w i))
    go true e =
        let l = ltb-true i w e in
        let z : i + 1 - (i + 1) ≡ i + 1 - w = omega (arith, l) in
        subst (λ f. Given run w i (largest (slice f (i + 1) run))) z (wider run w i l (by-words run i h (i + 1) (omega arith)))
    go false e = let l = ltb-false i w e in by-words run i h w (omega (arith, l))

-- ---- the output
peak_at : (run : List ℕ) (w n i : ℕ) → i < n → get_or (peaks run w n) i 0 ≡ largest (window run w i)
unfolding peaks
peak_at run w zero i h = absurd (omega arith)
peak_at run w (suc n) i h = elim (eq-or-lt_of_le {n = i} {m = n} (omega arith)) [
  | inl e ↦ get_or_at (peaks run w n) (largest (window run w n)) [] 0 i (length-peaks run w n ∙ sym e) ∙ ap (λ k. largest (window run w k)) (sym e)
  | inr l ↦ get_or-append (peaks run w n) (largest (window run w n) ∷ []) 0 i (omega (arith, length-peaks run w n)) ∙ peak_at run w n i l
]

pub peak_law : PeakLaw after
unfolding refused filled
peak_law run w out lo hi short room i h =
    let accepted : refused run w out ≡ false =
    neither (neither (ne_eqb w 0 (λ e. omega arith)) (le-ltb 64 w hi)) (neither (le-ltb 4096 (length run) short) (le-ltb (length out) (length run) room)) in
    let gives : largest (window run w i) ≡ get_or (after run w out) i 0 =
    sym (peak_at run w (length run) i h)
    ∙ sym (get_or-append (peaks run w (length run)) (drop (length run) out) 0 i (omega (arith, length-peaks run w (length run))))
    ∙ ap (λ l. get_or l i 0) (taken run w out {out' = filled run w (length run) out} accepted refl).1 in
    subst (λ y. Given run w i y) gives (of_window run w i h)
