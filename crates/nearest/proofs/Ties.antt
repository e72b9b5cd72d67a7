-- Not above, by the order of values: of two numbers one is not above the other just where the other is not below it. Assumes nothing.
use Prim.Native.Nat.{ℕ, ◌+◌, ◌*◌}
use mathlib.Core.Path.{◌≡◌, refl, sym, ap, ap₂, ◌∙◌}
use mathlib.Core.Bool.{Bool, true, false, not, ◌&&◌, ◌||◌, true≢false}
use mathlib.Core.Logic.{inl, inr}
use native.Mathlib.Nat.{eq-or-lt_of_le}
use native.Mathlib.Omega.{arith}
use borrow.Author.Tests.{ltb-true, ltb-false, lt-ltb, le-ltb, eqb-true, eqb-false, eq-eqb, ne_eqb}
use lib.Dec.{ltb, eqb}
use lib.Ieee.{Float, nan, inf, fin, up, down, below, level, is_nan, lt, eq, le}

-- ---- ±a against ±b
below_or_equal : (a b : ℕ) → (ltb a b || eqb a b) ≡ not (ltb b a)
below_or_equal a b = go (ltb b a) refl
  where
    go : (t : Bool) → ltb b a ≡ t → (ltb a b || eqb a b) ≡ not t
    go true e =
        let h = ltb-true b a e in
        ap₂ ◌||◌ (le-ltb a b (omega (arith, h))) (ne_eqb a b (λ z. omega (arith, h, z)))
    go false e = elim (eq-or-lt_of_le (ltb-false b a e)) [
      | inl z ↦ ap₂ ◌||◌ (le-ltb a b (omega (arith, z))) (eq-eqb a b z)
      | inr l ↦ ap (λ t. t || eqb a b) (lt-ltb a b l)
    ]

and-true : (t : Bool) → (t && true) ≡ t
and-true true = refl
and-true false = refl

both_zero : (a b : ℕ) → (eqb a b && eqb a 0) ≡ not (ltb 0 (a + b))
both_zero a b = go (ltb 0 (a + b)) refl
  where
    off : (t : Bool) → eqb a b ≡ t → (t ≡ true → eqb a 0 ≡ false) → (t && eqb a 0) ≡ false
    off true e h = h refl
    off false e h = refl

    go : (t : Bool) → ltb 0 (a + b) ≡ t → (eqb a b && eqb a 0) ≡ not t
    go true e =
        let h = ltb-true 0 (a + b) e in
        off (eqb a b) refl (λ t. ne_eqb a 0 (λ z. let s = eqb-true a b t in omega (arith, h, z, s)))
    go false e =
        let h = ltb-false 0 (a + b) e in
        ap₂ ◌&&◌ (eq-eqb a b (omega (arith, h))) (eq-eqb a 0 (omega (arith, h)))

below_level : (s t : Bool) (a b : ℕ) → (below s a t b || level s a t b) ≡ not (below t b s a)
below_level false false a b = ap (λ t. ltb a b || t) (and-true (eqb a b)) ∙ below_or_equal a b
below_level true true a b = ap (λ t. ltb b a || t) (and-true (eqb a b) ∙ eqb-turned a b) ∙ below_or_equal b a
  where
    eqb-turned : (a b : ℕ) → eqb a b ≡ eqb b a
    eqb-turned a b = go (eqb a b) refl
      where
        go : (t : Bool) → eqb a b ≡ t → t ≡ eqb b a
        go true e = sym (eq-eqb b a (sym (eqb-true a b e)))
        go false e = sym (ne_eqb b a (λ z. eqb-false a b e (sym z)))
below_level false true a b = both_zero a b ∙ ap (λ n. not (ltb 0 n)) {x = a + b} {y = b + a} (omega arith)
below_level true false a b = ap (λ t. ltb 0 (a + b) || t) (both_zero a b) ∙ either (ltb 0 (a + b))
  where
    either : (t : Bool) → (t || not t) ≡ true
    either true = refl
    either false = refl

-- ---- values
or-false : (t : Bool) → (t || false) ≡ t
or-false true = refl
or-false false = refl

pub not_above_is : (x y : Float) → is_nan x ≡ false → is_nan y ≡ false → le x y ≡ not (lt y x)
unfolding le lt eq is_nan
not_above_is nan y p q = absurd (true≢false p)
not_above_is (inf s) nan p q = absurd (true≢false q)
not_above_is (inf true) (inf true) p q = refl
not_above_is (inf true) (inf false) p q = refl
not_above_is (inf false) (inf true) p q = refl
not_above_is (inf false) (inf false) p q = refl
not_above_is (inf true) (fin t n d) p q = refl
not_above_is (inf false) (fin t n d) p q = refl
not_above_is (fin s m e) nan p q = absurd (true≢false q)
not_above_is (fin s m e) (inf t) p q = or-false (not t)
not_above_is (fin s m e) (fin t n d) p q = below_level s t (m * up e * down d) (n * up d * down e)

-- a NaN is not above anything, nor is anything not above it
pub not_above_number : (x y : Float) → le x y ≡ true → is_nan x ≡ false
unfolding le lt eq is_nan
not_above_number nan y p = absurd (true≢false (sym p))
not_above_number (inf s) y p = refl
not_above_number (fin s m e) y p = refl

pub not_above_nan : (x : Float) → le x nan ≡ false
unfolding le lt eq
not_above_nan nan = refl
not_above_nan (inf s) = refl
not_above_nan (fin s m e) = refl
