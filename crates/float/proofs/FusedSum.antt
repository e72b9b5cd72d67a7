-- The fused sum: `sum` sees only the values of its fractions (`sum_same`) and not their order (`sum_comm`); a sticky number may stand for one of them (`sticky-sum`);
-- and `fused_multiply_add` of three finite values is such a sum (`fused_at`). Assumes nothing.
use mathlib.Core.Path.{◌≡◌, refl, sym, ap, ap₂, ◌∙◌, subst}
use mathlib.Core.Logic.{◌⊎◌, inl, inr}
use mathlib.Core.Bool.{Bool, true, false, not, beq}
use Prim.Native.Nat.{ℕ, ◌+◌, ◌-◌, ◌*◌, ◌^◌, ◌≤◌, ◌<◌}
use native.Mathlib.Nat.{le_of_eq, le_antisymm, lt_of_lt_of_le, lt_of_le_of_lt, lt_of_mul-lt-mul_right, mul-lt-mul_of_pos_right, mul-le-mul_right, eq_of_mul-eq-mul_right, mul-pos, add-mul, add_comm}
use native.Mathlib.Omega.{arith}
use lib.Dec.{T, ltb, ltb→lt, nltb→le}
use lib.Pow.{pow_pos}
use lib.Ieee.{Float, nan, inf, fin, binary64, up, down, unlike, round, sum}
use lib.Ieee.Fits.{down_pos}
use lib.Ieee.Exact.{HasValue}
use lib.Ieee.Scale.{round_same}
use Rattle.float.specs.Near.{Near}
use Rattle.float.specs.Fused.{product, plus_product, fused_multiply_add}
use Rattle.float.proofs.Sums.{sum_like, sum_less, sum_more, sum-none}
use Rattle.float.proofs.Sticky.{near_more, near_less, sticky_round}

-- the ways in which two signed magnitudes meet
data Meet (s t : Bool) (a b : ℕ) : Type 0 where
  alike : beq s t ≡ true → Meet s t a b
  less : beq s t ≡ false → a < b → Meet s t a b
  more : beq s t ≡ false → b < a → Meet s t a b
  level : beq s t ≡ false → a ≡ b → Meet s t a b

meet : (s t : Bool) (a b : ℕ) → Meet s t a b
meet s t a b = go (beq s t) refl (ltb a b) (ltb→lt a b) (nltb→le a b) (ltb b a) (ltb→lt b a) (nltb→le b a)
  where
    go : (x : Bool) → beq s t ≡ x → (y : Bool) → (T y → a < b) → (T (not y) → b ≤ a) → (z : Bool) → (T z → b < a) → (T (not z) → a ≤ b) → Meet s t a b
    go true e y f g z h k = alike e
    go false e true f g z h k = less e (f tt)
    go false e false f g true h k = more e (h tt)
    go false e false f g false h k = level e (le_antisymm (k tt) (g tt))

-- ---- equal fractions
module _ (s t : Bool) (a b c a' b' c' : ℕ) (C : 0 < c) (C' : 0 < c') (A : a * c' ≡ a' * c) (B : b * c' ≡ b' * c) where
  pub sum_same : sum binary64 s a t b c ≡ sum binary64 s a' t b' c'
  sum_same = go (meet s t a b)
    where
      gap : (x y x' y' : ℕ) → x * c' ≡ x' * c → y * c' ≡ y' * c → x < y → (y - x) * c' ≡ (y' - x') * c
      gap x y x' y' e f l =
          let u : (y - x) * c' + x * c' ≡ y * c' = sym (add-mul (y - x) x c') ∙ ap (λ (z : ℕ). z * c') (omega arith) in
          let g : x' < y' = lt_of_mul-lt-mul_right c (lt_of_le_of_lt (le_of_eq (sym e)) (lt_of_lt_of_le (mul-lt-mul_of_pos_right l C') (le_of_eq f))) in
          let v : (y' - x') * c + x' * c ≡ y' * c = sym (add-mul (y' - x') x' c) ∙ ap (λ (z : ℕ). z * c) (omega (arith, g)) in
          omega (arith, u, v, e, f)

      still : (x y x' y' : ℕ) → x * c' ≡ x' * c → y * c' ≡ y' * c → x < y → x' < y'
      still x y x' y' e f l = lt_of_mul-lt-mul_right c (lt_of_le_of_lt (le_of_eq (sym e)) (lt_of_lt_of_le (mul-lt-mul_of_pos_right l C') (le_of_eq f)))

      go : Meet s t a b → sum binary64 s a t b c ≡ sum binary64 s a' t b' c'
      go (alike e) =
          sum_like s t a b c e
          ∙ round_same binary64 s (a + b) c (a' + b') c' C C' (add-mul a b c' ∙ ap₂ (λ (x y : ℕ). x + y) A B ∙ sym (add-mul a' b' c))
          ∙ sym (sum_like s t a' b' c' e)
      go (less e l) = sum_less s t a b c e l ∙ round_same binary64 t (b - a) c (b' - a') c' C C' (gap a b a' b' A B l) ∙ sym (sum_less s t a' b' c' e (still a b a' b' A B l))
      go (more e l) = sum_more s t a b c e l ∙ round_same binary64 s (a - b) c (a' - b') c' C C' (gap b a b' a' B A l) ∙ sym (sum_more s t a' b' c' e (still b a b' a' B A l))
      go (level e h) =
          sum-none s t a b c e h
          ∙ round_same binary64 false 0 c 0 c' C C' (native.Mathlib.Nat.zero-mul c' ∙ sym (native.Mathlib.Nat.zero-mul c))
          ∙ sym (sum-none s t a' b' c' e (eq_of_mul-eq-mul_right c C a' b' (sym A ∙ ap (λ (x : ℕ). x * c') h ∙ B)))

-- ---- either order
beq_swap : (s t x : Bool) → beq s t ≡ x → beq t s ≡ x
beq_swap true true x e = e
beq_swap true false x e = e
beq_swap false true x e = e
beq_swap false false x e = e

beq_same : (s t : Bool) → beq s t ≡ true → s ≡ t
beq_same true true e = refl
beq_same true false e = absurd (subst T (sym e) tt)
beq_same false true e = absurd (subst T (sym e) tt)
beq_same false false e = refl

pub sum_comm : (s t : Bool) (a b c : ℕ) → sum binary64 s a t b c ≡ sum binary64 t b s a c
sum_comm s t a b c = go (meet s t a b)
  where
    go : Meet s t a b → sum binary64 s a t b c ≡ sum binary64 t b s a c
    go (alike e) = sum_like s t a b c e ∙ ap₂ (λ (x : Bool) (n : ℕ). round binary64 x n c) (beq_same s t e) (add_comm a b) ∙ sym (sum_like t s b a c (beq_swap s t true e))
    go (less e l) = sum_less s t a b c e l ∙ sym (sum_more t s b a c (beq_swap s t false e) l)
    go (more e l) = sum_more s t a b c e l ∙ sym (sum_less t s b a c (beq_swap s t false e) l)
    go (level e h) = sum-none s t a b c e h ∙ sym (sum-none t s b a c (beq_swap s t false e) (sym h))

-- ---- a sticky number for the smaller one: 2 * k units and x, where w units stand for x
pub sticky_sum : (s t : Bool) (k x w a b : ℕ) → Near x w (2 ^ a) → (x ≡ w * 2 ^ a) ⊎ (w + 2 ^ 62 ≤ 2 * k)
    → sum binary64 s (2 * k * 2 ^ a) t x (2 ^ b) ≡ sum binary64 s (2 * k * 2 ^ a) t (w * 2 ^ a) (2 ^ b)
sticky_sum s t k x w a b n (inl e) = ap (λ (y : ℕ). sum binary64 s (2 * k * 2 ^ a) t y (2 ^ b)) e
sticky_sum s t k x w a b n (inr big) = go (beq s t) refl
  where
    u : ℕ
    u = 2 ^ a

    top : (w + 1) * 2 ^ a ≤ 2 * k * 2 ^ a
    top = mul-le-mul_right (2 ^ a) (omega (arith, big))

    strict : (w + 1) * 2 ^ a ≡ w * 2 ^ a + 2 ^ a
    strict = omega arith

    under : Near x w (2 ^ a) → x < 2 * k * 2 ^ a
    under (inl e) = omega (arith, top, strict, e, pow_pos a)
    under (inr m) = omega (arith, top, strict, m.2)

    split : (2 * k - w) * 2 ^ a + w * 2 ^ a ≡ 2 * k * 2 ^ a
    split = sym (add-mul (2 * k - w) w (2 ^ a)) ∙ ap (λ (z : ℕ). z * 2 ^ a) (omega (arith, big))

    go : (x' : Bool) → beq s t ≡ x' → sum binary64 s (2 * k * 2 ^ a) t x (2 ^ b) ≡ sum binary64 s (2 * k * 2 ^ a) t (w * 2 ^ a) (2 ^ b)
    go true e =
        sum_like s t (2 * k * 2 ^ a) x (2 ^ b) e
        ∙ sticky_round s (2 * k * 2 ^ a + x) (2 * k + w) a b (near_more x w (2 ^ a) k n) (omega (arith, big))
        ∙ ap (λ (z : ℕ). round binary64 s z (2 ^ b)) (add-mul (2 * k) w (2 ^ a))
        ∙ sym (sum_like s t (2 * k * 2 ^ a) (w * 2 ^ a) (2 ^ b) e)
    go false e =
        sum_more s t (2 * k * 2 ^ a) x (2 ^ b) e (under n)
        ∙ sticky_round s (2 * k * 2 ^ a - x) (2 * k - w) a b (near_less x w (2 ^ a) k n (omega (arith, big)) (native.Mathlib.Nat.le_of_lt (under n))) (omega (arith, big))
        ∙ ap (λ (z : ℕ). round binary64 s z (2 ^ b)) (sub_out ((2 * k - w) * 2 ^ a) (w * 2 ^ a) (2 * k * 2 ^ a) split)
        ∙ sym (sum_more s t (2 * k * 2 ^ a) (w * 2 ^ a) (2 ^ b) e (omega (arith, top, strict, pow_pos a)))
      where
        sub_out : (d x y : ℕ) → d + x ≡ y → d ≡ y - x
        sub_out d x y h = omega arith

-- ---- equal fractions, brought to one denominator
pub crossed : (a y x c d q : ℕ) → a * d ≡ q * x → a * y * (c * d) ≡ q * c * (y * x)
crossed a y x c d q e = one ∙ ap (λ (i : ℕ). i * (y * c)) e ∙ two
  where
    one : a * y * (c * d) ≡ a * d * (y * c)
    one = omega arith

    two : q * x * (y * c) ≡ q * c * (y * x)
    two = omega arith

-- ---- `fused_multiply_add` of finite values
abbrev Finite : Float → Type 0
Finite nan = ⊥
Finite (inf s) = ⊥
Finite (fin s m e) = Unit

pub fused_at : (x y z : Float) (r s t : Bool) (p q n c d g : ℕ) → 0 < c → 0 < d → 0 < g → HasValue x r p c → HasValue y s q d → HasValue z t n g
    → fused_multiply_add binary64 x y z ≡ sum binary64 (unlike r s) (p * q * g) t (n * (c * d)) (c * d * g)
fused_at nan y z r s t p q n c d g C D G X Y Z = absurd X
fused_at (inf u) y z r s t p q n c d g C D G X Y Z = absurd X
fused_at (fin u m e) nan z r s t p q n c d g C D G X Y Z = absurd Y
fused_at (fin u m e) (inf v) z r s t p q n c d g C D G X Y Z = absurd Y
fused_at (fin u m e) (fin v k f) nan r s t p q n c d g C D G X Y Z = absurd Z
fused_at (fin u m e) (fin v k f) (inf w) r s t p q n c d g C D G X Y Z = absurd Z
fused_at (fin u m e) (fin v k f) (fin w l h) r s t p q n c d g C D G X Y Z =
    is u v w
    ∙ ap₂ (λ (a b : Bool). sum binary64 a (m * up e * (k * up f) * down h) b (l * up h * (down e * down f)) (down e * down f * down h)) (ap₂ unlike X.0 Y.0) Z.0
    ∙ sum_same (unlike r s) t (m * up e * (k * up f) * down h) (l * up h * (down e * down f)) (down e * down f * down h) (p * q * g) (n * (c * d)) (c * d * g)
    (mul-pos (mul-pos (down_pos e) (down_pos f)) (down_pos h)) (mul-pos (mul-pos C D) G)
    (left (m * up e) (k * up f) (down h) (down e) (down f) X.1 Y.1) (crossed (l * up h) (down e * down f) (down h) (c * d) g n Z.1)
  where
    is : (u v w : Bool) → fused_multiply_add binary64 (fin u m e) (fin v k f) (fin w l h) ≡ sum binary64 (unlike u v) (m * up e * (k * up f) * down h) w (l * up h * (down e * down f)) (down e * down f * down h)
    is u v w = unfold fused_multiply_add product plus_product in refl

    left : (a b x y z : ℕ) → a * c ≡ p * y → b * d ≡ q * z → a * b * x * (c * d * g) ≡ p * q * g * (y * z * x)
    left a b x y z α β = one ∙ ap₂ (λ (i j : ℕ). i * j * (x * g)) α β ∙ two
      where
        one : a * b * x * (c * d * g) ≡ a * c * (b * d) * (x * g)
        one = omega arith

        two : p * y * (q * z) * (x * g) ≡ p * q * g * (y * z * x)
        two = omega arith
