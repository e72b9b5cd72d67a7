-- The point that the search finds is the nearest: `NearestLaw`. What the best of the first n points is goes on to the next point. Assumes nothing.
use Prim.Native.Nat.{ℕ, zero, suc, ◌+◌, ◌*◌, ◌/◌, ◌<◌}
use mathlib.Core.Path.{◌≡◌, refl, sym, ap, ap₂, ◌∙◌, subst}
use mathlib.Core.Bool.{Bool, true, false, cond, true≢false}
use mathlib.Core.List.{List}
use mathlib.Core.Option.{Option, none, some}
use native.Mathlib.Omega.{arith}
use borrow.Author.Count.{below_none, below_more}
use borrow.Author.Tests.{not-true, not-false}
use lib.ListN.{length, drop}
use lib.Ieee.{Float, is_nan, lt, le}
use Rattle.float.specs.Word.{value}
use Rattle.float.proofs.Order.{not_below_through, not-above, not_below_self, nan_not_below}
use Rattle.nearest.specs.Nearest.{Candidate, candidates, not_farther, chosen, better, fold, best_of, told, nearest}
use Rattle.nearest.specs.Laws.{far, Preferred, IsNearest, Answers, NearestLaw}
use Rattle.nearest.specs.Laws.Answers.{found, nothing}
use Rattle.nearest.proofs.Ties.{not_above_is}
use Rattle.nearest.proofs.Points.{next, ended, taken}

-- the best of the first n points
data Best (f : ℕ → Float) (n : ℕ) : Option Candidate → Type 0 where
  nobody : ((k : ℕ) → k < n → is_nan (f k) ≡ true) → Best f n none
  one : (c : Candidate) → value c.far ≡ f c.index → IsNearest f n c.index → Best f n (some c)

module _ (f : ℕ → Float) (n : ℕ) where
  -- a NaN is passed over
  passed : is_nan (f n) ≡ true → {b : Option Candidate} → Best f n b → Best f (n + 1) b
  passed e (nobody all) = nobody (below_more (λ k. is_nan (f k) ≡ true) n all e)
  passed e (one c v h) =
      one c v
      (record {
        among = omega (arith, h.among);
        number = h.number;
        smallest = below_more (λ k. lt (f k) (f c.index) ≡ false) n h.smallest (nan_not_below (f n) (f c.index) e);
        preferred =
            below_more (λ k. Preferred k c.index → is_nan (f k) ≡ false → lt (f c.index) (f k) ≡ true) n h.preferred (λ p m. absurd (true≢false (sym e ∙ m)));
      })

  -- the first that is a number
  first : ((k : ℕ) → k < n → is_nan (f k) ≡ true) → is_nan (f n) ≡ false → IsNearest f (n + 1) n
  first all e =
      record {
        among = omega arith;
        number = e;
        smallest = below_more (λ k. lt (f k) (f n) ≡ false) n (λ k l. nan_not_below (f k) (f n) (all k l)) (not_below_self (f n));
        preferred =
            below_more (λ k. Preferred k n → is_nan (f k) ≡ false → lt (f n) (f k) ≡ true) n (λ k l p m. absurd (true≢false (sym (all k l) ∙ m))) (λ p m. absurd (omega arith));
      }

  -- one that is not farther than the best before
  wins : (i : ℕ) → IsNearest f n i → is_nan (f n) ≡ false → le (f n) (f i) ≡ true → IsNearest f (n + 1) n
  wins i h e l =
      let beside : lt (f i) (f n) ≡ false = not-true (lt (f i) (f n)) (sym (not_above_is (f n) (f i) e h.number) ∙ l) in
      record {
        among = omega arith;
        number = e;
        smallest = below_more (λ k. lt (f k) (f n) ≡ false) n (λ k b. not_below_through (f k) (f i) (f n) h.number (h.smallest k b) beside) (not_below_self (f n));
        preferred = below_more (λ k. Preferred k n → is_nan (f k) ≡ false → lt (f n) (f k) ≡ true) n (λ k b p m. absurd (omega arith)) (λ p m. absurd (omega arith));
      }

  -- one that is
  stays : (i : ℕ) → IsNearest f n i → is_nan (f n) ≡ false → le (f n) (f i) ≡ false → IsNearest f (n + 1) i
  stays i h e l =
      let farther : lt (f i) (f n) ≡ true = not-false (lt (f i) (f n)) (sym (not_above_is (f n) (f i) e h.number) ∙ l) in
      record {
        among = omega (arith, h.among);
        number = h.number;
        smallest = below_more (λ k. lt (f k) (f i) ≡ false) n h.smallest (not-above (f i) (f n) farther);
        preferred = below_more (λ k. Preferred k i → is_nan (f k) ≡ false → lt (f i) (f k) ≡ true) n h.preferred (λ p m. farther);
      }

  module _ (w : ℕ) (v : value w ≡ f n) where
    abbrev new : Candidate
    new = record { index = n; far = w }

    compared : (c : Candidate) → value c.far ≡ f c.index → IsNearest f n c.index → is_nan (f n) ≡ false → (t : Bool) → not_farther w c.far ≡ t
        → Best f (n + 1) (cond t (some new) (some c))
    compared c u h e true l = one new v (wins c.index h e (sym (ap₂ le v u) ∙ l))
    compared c u h e false l = one c u (stays c.index h e (sym (ap₂ le v u) ∙ l))

    counted : {b : Option Candidate} → is_nan (f n) ≡ false → Best f n b → Best f (n + 1) (chosen not_farther b new)
    counted e (nobody all) = one new v (first all e)
    counted e (one c u h) = compared c u h e (not_farther w c.far) refl

    -- one point further
    further : (b : Option Candidate) → Best f n b → Best f (n + 1) (better not_farther b new)
    further b h = go (is_nan (value w)) refl
      where
        go : (t : Bool) → is_nan (value w) ≡ t → Best f (n + 1) (cond t b (chosen not_farther b new))
        go true e = passed (sym (ap is_nan v) ∙ e) h
        go false e = counted (sym (ap is_nan v) ∙ e) h

module _ (re im : ℕ) (s : List ℕ) where
  abbrev count : ℕ
  count = length s / 2

  -- the d points that are left
  onward : (d i : ℕ) (b : Option Candidate) → i + d ≡ count → Best (far re im s) i b
      → Best (far re im s) count (fold not_farther b (candidates re im i (drop (2 * i) s)))
  unfolding fold
  onward zero i b e h =
      subst (λ l. Best (far re im s) count (fold not_farther b l)) (sym (ended re im i s (omega arith)))
      (subst (λ n. Best (far re im s) n b) {x = i} {y = count} (omega arith) h)
  onward (suc d) i b e h =
      subst (λ l. Best (far re im s) count (fold not_farther b l)) (sym (next re im i s (omega arith)))
      (onward d (i + 1) _ (omega arith) (further (far re im s) i _ refl b h))

  said : {b : Option Candidate} → Best (far re im s) count b → Answers (far re im s) count (told b)
  said (nobody all) = nothing all
  said (one c v h) = found c.index h

pub nearest_law : NearestLaw nearest
unfolding best_of
nearest_law re im s e l =
    subst (λ v. Answers (far re im s) (length s / 2) v) (taken re im s e l)
    (said re im s (onward re im s (length s / 2) 0 none (omega arith) (nobody (below_none _))))
