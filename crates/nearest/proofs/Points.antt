-- The points from a position on.
use mathlib.Core.Path.{◌≡◌, refl, sym, ap, ap₂, ◌∙◌}
use mathlib.Core.Bool.{Bool, true, false, not, cond, ◌||◌}
use mathlib.Core.List.{List, [], ◌∷◌}
use Prim.Native.Nat.{ℕ, suc, ◌+◌, ◌*◌, ◌%◌, ◌≤◌, ◌<◌}
use native.Mathlib.Omega.{arith}
use lib.ListN.{length, get_or, drop, length-drop}
use lib.Seq.{drop-cons}
use lib.Dec.{eqb, ltb}
use borrow.Author.Tests.{eq-eqb, ne_eqb, lt-ltb, le-ltb}
use Rattle.nearest.specs.Nearest.{distance, candidates, not_farther, best_of, Values, told, nearest}

-- the point at a position, and those behind it
pub next : (re im i : ℕ) (s : List ℕ) → 2 * i + 1 < length s
    → candidates re im i (drop (2 * i) s)
    ≡ record { index = i; far = distance re im (get_or s (2 * i) 0) (get_or s (2 * i + 1) 0) } ∷ candidates re im (i + 1) (drop (2 * (i + 1)) s)
unfolding candidates
next re im i s h =
    let e : suc (2 * i) ≡ 2 * i + 1 = omega arith in
    let f : suc (2 * i + 1) ≡ 2 * (i + 1) = omega arith in
    let g : suc i ≡ i + 1 = omega arith in
    ap (candidates re im i) (drop-cons s (2 * i) 0 (omega arith))
    ∙ ap (λ k. candidates re im i (get_or s (2 * i) 0 ∷ drop k s)) e
    ∙ ap (λ t. candidates re im i (get_or s (2 * i) 0 ∷ t)) (drop-cons s (2 * i + 1) 0 h)
    ∙ ap (λ k. record { index = i; far = distance re im (get_or s (2 * i) 0) (get_or s (2 * i + 1) 0) } ∷ candidates re im (suc i) (drop k s)) f
    ∙ ap (λ k. record { index = i; far = distance re im (get_or s (2 * i) 0) (get_or s (2 * i + 1) 0) } ∷ candidates re im k (drop (2 * (i + 1)) s)) g

short : (re im i : ℕ) (s : List ℕ) → length s < 2 → candidates re im i s ≡ []
unfolding candidates
short re im i [] h = refl
short re im i (x ∷ []) h = refl
short re im i (x ∷ y ∷ s) h = absurd (omega arith)

-- no point is left
pub ended : (re im i : ℕ) (s : List ℕ) → length s < 2 * i + 2 → candidates re im i (drop (2 * i) s) ≡ []
ended re im i s h = short re im i (drop (2 * i) s) (omega (arith, length-drop (2 * i) s))

-- ---- the entry's two tests

module _ (re im : ℕ) (s : List ℕ) where
  by : Bool → Bool → Values
  by even long = cond (not even || long) (record { number = 13; found = 0; index = 0 }) (told (best_of not_farther re im s))

  tests : (even long : Bool) → eqb (length s % 2) 0 ≡ even → ltb 1024 (length s) ≡ long → by even long ≡ nearest re im s
  unfolding by nearest
  tests even long e l = sym (ap₂ by e l)

  pub odd : (length s % 2 ≡ 0 → ⊥) → record { number = 13; found = 0; index = 0 } ≡ nearest re im s
  unfolding by
  odd h = tests false (ltb 1024 (length s)) (ne_eqb (length s % 2) 0 h) refl

  full : (even : Bool) → record { number = 13; found = 0; index = 0 } ≡ by even true
  unfolding by
  full true = refl
  full false = refl

  pub long : 1024 < length s → record { number = 13; found = 0; index = 0 } ≡ nearest re im s
  long h = full (eqb (length s % 2) 0) ∙ tests (eqb (length s % 2) 0) true refl (lt-ltb 1024 (length s) h)

  pub taken : length s % 2 ≡ 0 → length s ≤ 1024 → told (best_of not_farther re im s) ≡ nearest re im s
  unfolding by
  taken e h = tests true false (eq-eqb (length s % 2) 0 e) (le-ltb 1024 (length s) h)
