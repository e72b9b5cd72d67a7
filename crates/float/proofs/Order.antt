-- The order of values: what is not below a number that is not below a third is not below the third; below is transitive; a NaN is below nothing, and nothing below it.
-- Assumes nothing.
use Prim.Native.Nat.{ℕ, suc, ◌+◌, ◌*◌, ◌<◌}
use mathlib.Core.Path.{◌≡◌, refl, sym, ap, ap₂, ◌∙◌}
use mathlib.Core.Bool.{Bool, true, false, not, ◌&&◌, false≢true, true≢false}
use native.Mathlib.Nat.{mul_right_comm, mul-le-mul_right, mul-lt-mul_of_pos_right, add-mul, zero-mul}
use native.Mathlib.Omega.{arith}
use borrow.Author.Tests.{ltb-true, ltb-false, lt-ltb, le-ltb}
use lib.Dec.{ltb}
use lib.IntN.{ℤ, pos, negsuc}
use lib.Pow.{pow_pos}
use lib.Ieee.{Float, nan, inf, fin, up, down, below, lt, is_nan}

-- ---- ±a against ±b
below_through : (s t u : Bool) (a b c : ℕ) → below s a t b ≡ false → below t b u c ≡ false → below s a u c ≡ false
below_through false false false a b c p q = le-ltb a c (omega (arith, ltb-false a b p, ltb-false b c q))
below_through false false true a b c p q = refl
below_through false true false a b c p q = le-ltb a c (omega (arith, ltb-false 0 (b + c) q))
below_through false true true a b c p q = refl
below_through true false false a b c p q = le-ltb 0 (a + c) (omega (arith, ltb-false 0 (a + b) p, ltb-false b c q))
below_through true false true a b c p q = le-ltb c a (omega (arith, ltb-false 0 (a + b) p))
below_through true true false a b c p q = le-ltb 0 (a + c) (omega (arith, ltb-false b a p, ltb-false 0 (b + c) q))
below_through true true true a b c p q = le-ltb c a (omega (arith, ltb-false b a p, ltb-false c b q))

below_not_above : (s t : Bool) (a b : ℕ) → below s a t b ≡ true → below t b s a ≡ false
below_not_above false false a b p = le-ltb b a (omega (arith, ltb-true a b p))
below_not_above false true a b p = absurd (false≢true p)
below_not_above true false a b p = refl
below_not_above true true a b p = le-ltb a b (omega (arith, ltb-true b a p))

ltb_times : (a b r : ℕ) → 0 < r → (t : Bool) → ltb a b ≡ t → ltb (a * r) (b * r) ≡ t
ltb_times a b r h true e = lt-ltb (a * r) (b * r) (mul-lt-mul_of_pos_right (ltb-true a b e) h)
ltb_times a b r h false e = le-ltb (a * r) (b * r) (mul-le-mul_right r (ltb-false a b e))

-- both times r
below_times : (s t : Bool) (a b r : ℕ) → 0 < r → below s (a * r) t (b * r) ≡ below s a t b
below_times false false a b r h = ltb_times a b r h (ltb a b) refl
below_times false true a b r h = refl
below_times true false a b r h =
    ap₂ ltb (sym (zero-mul r)) (sym (add-mul a b r)) ∙ ltb_times 0 (a + b) r h (ltb 0 (a + b)) refl
below_times true true a b r h = ltb_times b a r h (ltb b a) refl

-- ---- fractions ±a / p, ±b / q, ±c / r
fraction_through : (s t u : Bool) (a b c p q r : ℕ) → 0 < p → 0 < q → 0 < r
    → below s (a * q) t (b * p) ≡ false → below t (b * r) u (c * q) ≡ false → below s (a * r) u (c * p) ≡ false
fraction_through s t u a b c p q r hp hq hr h k =
    sym (below_times s u (a * r) (c * p) q hq)
    ∙ ap₂ (λ x y. below s x u y) (mul_right_comm a r q) (mul_right_comm c p q)
    ∙ below_through s t u (a * q * r) (b * p * r) (c * q * p)
    (below_times s t (a * q) (b * p) r hr ∙ h)
    (ap (λ x. below t x u (c * q * p)) (mul_right_comm b p r) ∙ below_times t u (b * r) (c * q) p hp ∙ k)

down_pos : (e : ℤ) → 0 < down e
down_pos (pos k) = omega arith
down_pos (negsuc k) = pow_pos (suc k)

-- ---- values
pub not_below_through : (x y z : Float) → is_nan y ≡ false → lt x y ≡ false → lt y z ≡ false → lt x z ≡ false
unfolding lt is_nan
not_below_through nan y z n p q = refl
not_below_through (inf s) nan z n p q = absurd (true≢false n)
not_below_through (inf s) (inf t) nan n p q = refl
not_below_through (inf false) (inf t) (inf u) n p q = refl
not_below_through (inf true) (inf true) (inf u) n p q = q
not_below_through (inf true) (inf false) (inf u) n p q = absurd (true≢false p)
not_below_through (inf false) (inf t) (fin u k f) n p q = refl
not_below_through (inf true) (inf true) (fin u k f) n p q = q
not_below_through (inf true) (inf false) (fin u k f) n p q = absurd (true≢false p)
not_below_through (inf s) (fin t m d) nan n p q = refl
not_below_through (inf false) (fin t m d) (inf u) n p q = refl
not_below_through (inf true) (fin t m d) (inf u) n p q = absurd (true≢false p)
not_below_through (inf s) (fin t m d) (fin u k f) n p q = p
not_below_through (fin s m e) nan z n p q = absurd (true≢false n)
not_below_through (fin s m e) (inf t) nan n p q = refl
not_below_through (fin s m e) (inf true) (inf u) n p q = q
not_below_through (fin s m e) (inf false) (inf u) n p q = absurd (true≢false p)
not_below_through (fin s m e) (inf true) (fin u k f) n p q = absurd (true≢false q)
not_below_through (fin s m e) (inf false) (fin u k f) n p q = absurd (true≢false p)
not_below_through (fin s m e) (fin t n d) nan i p q = refl
not_below_through (fin s m e) (fin t n d) (inf u) i p q = q
not_below_through (fin s m e) (fin t n d) (fin u k f) i p q =
    fraction_through s t u (m * up e) (n * up d) (k * up f) (down e) (down d) (down f) (down_pos e) (down_pos d) (down_pos f) p q

pub not-above : (x y : Float) → lt x y ≡ true → lt y x ≡ false
unfolding lt
not-above nan y p = absurd (false≢true p)
not-above (inf s) nan p = refl
not-above (inf true) (inf t) p = not-not t p
  where
    not-not : (t : Bool) → not t ≡ true → t && false ≡ false
    not-not true e = refl
    not-not false e = refl
not-above (inf false) (inf t) p = absurd (false≢true p)
not-above (inf true) (fin t n d) p = refl
not-above (inf false) (fin t n d) p = absurd (false≢true p)
not-above (fin s m e) nan p = refl
not-above (fin s m e) (inf true) p = absurd (false≢true p)
not-above (fin s m e) (inf false) p = refl
not-above (fin s m e) (fin t n d) p = below_not_above s t (m * up e * down d) (n * up d * down e) p

-- what is below another is a number, and so is what is above another
pub below_number : (x y : Float) → lt x y ≡ true → is_nan x ≡ false
unfolding lt is_nan
below_number nan y p = absurd (false≢true p)
below_number (inf s) y p = refl
below_number (fin s m e) y p = refl

pub above_number : (x y : Float) → lt x y ≡ true → is_nan y ≡ false
unfolding lt is_nan
above_number nan y p = absurd (false≢true p)
above_number (inf s) nan p = absurd (false≢true p)
above_number (inf s) (inf t) p = refl
above_number (inf s) (fin t n d) p = refl
above_number (fin s m e) nan p = absurd (false≢true p)
above_number (fin s m e) (inf t) p = refl
above_number (fin s m e) (fin t n d) p = refl

pub below_trans : (x y z : Float) → lt x y ≡ true → lt y z ≡ true → lt x z ≡ true
below_trans x y z p q = either (lt x z) refl
  where
    either : (t : Bool) → lt x z ≡ t → lt x z ≡ true
    either true e = e
    either false e = absurd (true≢false (sym p ∙ not_below_through x z y (above_number y z q) e (not-above y z q)))

-- no value is below itself, and a NaN is not below any, nor is any below it
pub not_below_self : (x : Float) → lt x x ≡ false
not_below_self x = either (lt x x) refl
  where
    either : (t : Bool) → lt x x ≡ t → lt x x ≡ false
    either true e = not-above x x e
    either false e = e

pub nan_not_below : (x y : Float) → is_nan x ≡ true → lt x y ≡ false
nan_not_below x y n = either (lt x y) refl
  where
    either : (t : Bool) → lt x y ≡ t → lt x y ≡ false
    either true e = absurd (true≢false (sym n ∙ below_number x y e))
    either false e = e

pub not_below_nan : (x y : Float) → is_nan y ≡ true → lt x y ≡ false
not_below_nan x y n = either (lt x y) refl
  where
    either : (t : Bool) → lt x y ≡ t → lt x y ≡ false
    either true e = absurd (true≢false (sym n ∙ above_number x y e))
    either false e = e
