-- Rounding to a whole number: the one fact of every direction is that the whole part and the class of the rest go by the fraction's value alone (`integral-at`).
-- Assumes nothing.
use mathlib.Core.Path.{◌≡◌, refl, sym, ap, ap₂, ◌∙◌, subst}
use mathlib.Core.Logic.{inl, inr}
use mathlib.Core.Bool.{Bool, true, false, cond}
use mathlib.Core.List.{[], ◌∷◌}
use Prim.Native.Nat.{ℕ, zero, suc, ◌+◌, ◌-◌, ◌*◌, ◌/◌, ◌%◌, ◌^◌, ◌≤◌, ◌<◌, compare}
use native.Mathlib.Nat.{add-zero, eq-zero-or-pos, lt_of_le_of_lt, lt_of_lt_of_le, le_of_eq, mul-pos, lt_of_mul-lt-mul_right, eq_of_mul-eq-mul_right, div-add-mod', zero-mul, mul-div_cancel, mul-mod_left, mul-one, mod-lt, mod_self, mod-eq_of_lt, div_self, div-eq_of_lt, mul-add-div_right, mul-add-mod_self_right, eq-or-lt_of_le}
use native.Mathlib.Omega.{arith}
use lib.Dec.{leb, eqb, lit<}
use lib.IntN.{ℤ, pos}
use lib.Pow.{pow_mono, pow_pos, shl_lt}
use lib.Bits.{bit_or}
use lib.Ieee.{Float, nan, inf, fin, binary64, up, down, round, is_nan, of_bits, to_bits}
use lib.Ieee.Fits.{down_pos, nearest-le}
use lib.Ieee.Exact.{HasValue, odd_sign, round_exact}
use lib.Ieee.Nearest.{div_same, closest_same}
use borrow.Author.Tests.{eq-eqb, ne_eqb}
use Rattle.float.specs.Integral.{ceiling, whole, round_to_integral}
use Rattle.float.specs.declared.integral.Direction.{Direction}
use Rattle.float.specs.declared.integral.Direction.TheVariants.{TiesToEven, TowardNegative, TowardPositive, TowardZero}
use Rattle.float.proofs.Closest.{closest_exact}
use Rattle.float.specs.Word.{value, integral}
use Rattle.float.proofs.Nan.{kept_word}
use Rattle.float.proofs.Marks.{number_word, number, round_number, nan_word, marked}
use Rattle.float.proofs.RoundBits.{value_bits}
use Rattle.float.proofs.RoundWord.{shifts}
use Rattle.float.proofs.Signed.{Is, is_pow}
use Rattle.float.proofs.Fields.{together, of_normal, rescale, word_infinite, word_zero}

-- ---- the least whole number that is not below a fraction
ceiling_most : (n c : ℕ) → ceiling n c ≤ n / c + 1
ceiling_most n c = go (eqb (n % c) 0)
  where
    go : (b : Bool) → n / c + cond b 0 1 ≤ n / c + 1
    go true = omega arith
    go false = omega arith

-- it is one above the whole part of the fraction a unit below
pub ceiling-suc : (n c : ℕ) → 0 < c → ceiling (suc n) c ≡ n / c + 1
ceiling-suc n c C =
    let q = n / c in
    let k = suc (n % c) in
    ap (λ (x : ℕ). ceiling x c) {x = suc n} {y = q * c + k} (omega (arith, div-add-mod' n c))
    ∙ ap₂ (λ (x y : ℕ). x + cond (eqb y 0) 0 1) (mul-add-div_right C q k) (mul-add-mod_self_right q c k)
    ∙ go q k (omega arith) (mod-lt n C)
  where
    go : (q k : ℕ) → 0 < k → k ≤ c → q + k / c + cond (eqb (k % c) 0) 0 1 ≡ q + 1
    go q k K h = elim (eq-or-lt_of_le h) [
      | inl e ↦
          ap (λ (x : ℕ). q + x / c + cond (eqb (x % c) 0) 0 1) e
          ∙ ap₂ (λ (x : ℕ) (z : Bool). q + x + cond z 0 1) (div_self C) (eq-eqb (c % c) 0 (mod_self c))
          ∙ omega arith
      | inr l ↦
          ap₂ (λ (x y : ℕ). q + x + cond (eqb y 0) 0 1) (div-eq_of_lt l) (mod-eq_of_lt l)
          ∙ ap (λ (z : Bool). q + 0 + cond z 0 1) (ne_eqb k 0 (λ (e : k ≡ 0). omega (arith, K, e)))
          ∙ omega arith
    ]

-- ---- equal fractions
module _ (a b c d : ℕ) (B : 0 < b) (D : 0 < d) (e : a * d ≡ c * b) where
  rests : a % b * d ≡ c % d * b
  rests =
      let q = c / d in
      let x : q * b + a % b ≡ a = subst (λ (z : ℕ). z * b + a % b ≡ a) (div_same a b c d B D e) (div-add-mod' a b) in
      let y : q * d + c % d ≡ c = div-add-mod' c d in
      join q (a % b) (c % d) (ap (λ (z : ℕ). z * d) x ∙ e ∙ ap (λ (z : ℕ). z * b) (sym y))
    where
      join : (q r s : ℕ) → (q * b + r) * d ≡ (q * d + s) * b → r * d ≡ s * b
      join q r s h = omega arith

  ceiling-same : ceiling a b ≡ ceiling c d
  ceiling-same = ap₂ (λ (q : ℕ) (z : Bool). q + cond z 0 1) (div_same a b c d B D e) (go (a % b) (c % d) rests)
    where
      above : (r : ℕ) → 0 < r → r ≡ 0 → ⊥
      above r p z = omega arith

      go : (r s : ℕ) → r * d ≡ s * b → eqb r 0 ≡ eqb s 0
      go r s h = elim (eq-zero-or-pos r) [
        | inl z ↦
            eq-eqb r 0 z
            ∙ sym (eq-eqb s 0 (eq_of_mul-eq-mul_right b B s 0 (sym h ∙ ap (λ (x : ℕ). x * d) z ∙ zero-mul d ∙ sym (zero-mul b))))
        | inr p ↦
            let S : 0 < s = lt_of_mul-lt-mul_right b (lt_of_le_of_lt (le_of_eq (zero-mul b)) (lt_of_lt_of_le (mul-pos p D) (le_of_eq h))) in
            ne_eqb r 0 (above r p) ∙ sym (ne_eqb s 0 (above s S))
      ]

  pub whole_same : (t : Direction) (s : Bool) → whole t s a b ≡ whole t s c d
  whole_same TiesToEven s = closest_same a b c d B D e
  whole_same TowardNegative s = ap₂ (cond s) ceiling-same (div_same a b c d B D e)
  whole_same TowardPositive s = ap₂ (cond s) (div_same a b c d B D e) ceiling-same
  whole_same TowardZero s = div_same a b c d B D e

-- the whole part or one more
pub whole_most : (t : Direction) (s : Bool) (n c : ℕ) → whole t s n c ≤ n / c + 1
whole_most TiesToEven s n c = omega (arith, nearest-le (n / c) (compare (n % c * 2) c))
whole_most TowardNegative true n c = ceiling_most n c
whole_most TowardNegative false n c = omega arith
whole_most TowardPositive true n c = omega arith
whole_most TowardPositive false n c = ceiling_most n c
whole_most TowardZero s n c = omega arith

pub integral_at : (t : Direction) (x : Float) (s : Bool) (p c : ℕ) → 0 < c → HasValue x s p c → round_to_integral t binary64 x ≡ round binary64 s (whole t s p c) 1
unfolding round_to_integral
integral_at t nan s p c C v = absurd v
integral_at t (inf u) s p c C v = absurd v
integral_at t (fin u m e) s p c C v =
    ap (λ (b : Bool). round binary64 b (whole t b (m * up e) (down e)) 1) v.0
    ∙ ap (λ (n : ℕ). round binary64 s n 1) (whole_same (m * up e) (down e) p c (down_pos e) C v.1 t s)

-- ---- a word from 2 ^ 52 up is a whole number already, in every direction
pub no_rest : (t : Direction) (s : Bool) (n c : ℕ) → 0 < c → whole t s (n * c) c ≡ n
no_rest t s n c C = go t s
  where
    exact : n * c / c ≡ n
    exact = mul-div_cancel n C

    up-exact : ceiling (n * c) c ≡ n
    up-exact = ap₂ (λ (q : ℕ) (z : Bool). q + cond z 0 1) exact (eq-eqb (n * c % c) 0 (mul-mod_left n c)) ∙ add-zero n

    go : (t : Direction) (s : Bool) → whole t s (n * c) c ≡ n
    go TiesToEven s = closest_exact n c C
    go TowardNegative true = up-exact
    go TowardNegative false = exact
    go TowardPositive true = exact
    go TowardPositive false = up-exact
    go TowardZero s = exact

pub large_value : (a : ℕ) → 1075 * 2 ^ 52 ≤ a % 2 ^ 63 → a % 2 ^ 63 < 2047 * 2 ^ 52
    → (n : ℕ) × HasValue (of_bits binary64 a) (leb (2 ^ 63) a) (n * 2 ^ 1074) (2 ^ 1074) × HasValue (round binary64 (leb (2 ^ 63) a) n 1) (leb (2 ^ 63) a) n 1
large_value a lo hi = go (a / 2 ^ 52 % 2 ^ 11) refl
  where
    s : Bool
    s = leb (2 ^ 63) a

    go : (x : ℕ) → a / 2 ^ 52 % 2 ^ 11 ≡ x → (n : ℕ) × HasValue (of_bits binary64 a) s (n * 2 ^ 1074) (2 ^ 1074) × HasValue (round binary64 s n 1) s n 1
    go zero e = absurd (none (a % 2 ^ 52) (together a ∙ ap (λ (y : ℕ). y * 2 ^ 52 + a % 2 ^ 52) e) (mod-lt a {m = 2 ^ 52} (lit< tt)))
      where
        none : (f : ℕ) → a % 2 ^ 63 ≡ 0 * 2 ^ 52 + f → f < 2 ^ 52 → ⊥
        none f e h = omega arith
    go (suc x) e =
        let h = together a in
        let l = mod-lt a {m = 2 ^ 52} (lit< tt) in
        let q = 2 ^ 52 + a % 2 ^ 52 in
        let j = x - 1074 in
        let n = q * 2 ^ j in
        let x-ge : 1074 ≤ x = omega (arith, h, l, e) in
        let x_lt : suc x < 2047 = omega (arith, h, l, e) in
        let units-are : q * 2 ^ x ≡ n * 2 ^ 1074 = ap (λ (y : ℕ). q * 2 ^ y) {x = x} {y = j + 1074} (omega (arith, x-ge)) ∙ sym (shifts q j 1074) in (
          n,
          subst (λ (y : ℕ). HasValue (of_bits binary64 a) s y (2 ^ 1074)) units-are
              (subst (λ (y : Float). HasValue y s (q * 2 ^ x) (2 ^ 1074)) (sym (of_normal a x e x_lt)) (odd_sign 53 s q x 1074)),
          round_exact binary64 s n 1 q x (lit< tt) (omega (arith, l)) (lt_of_lt_of_le (shl_lt 53 x (omega (arith, l))) (pow_mono {i = 53 + x} {j = 2098} (omega (arith, x_lt)))) (sym units-are ∙ sym (mul-one (q * 2 ^ x))),
        )

pub large_word : (t : Direction) (a : ℕ) → a < 2 ^ 64 → 1075 * 2 ^ 52 ≤ a % 2 ^ 63 → a % 2 ^ 63 < 2047 * 2 ^ 52 → to_bits binary64 (round_to_integral t binary64 (of_bits binary64 a)) ≡ a
large_word t a fits lo hi =
    let s = leb (2 ^ 63) a in
    let v = large_value a lo hi in
    let n = v.0 in
    ap (to_bits binary64) (integral_at t (of_bits binary64 a) s (n * 2 ^ 1074) (2 ^ 1074) (pow_pos 1074) v.1 ∙ ap (λ (y : ℕ). round binary64 s y 1) (no_rest t s n (2 ^ 1074) (pow_pos 1074)))
    ∙ value_bits (round binary64 s n 1) s (n * 2 ^ 1074) (rescale (round binary64 s n 1) s n 1 (n * 2 ^ 1074) (2 ^ 1074) (lit< tt) (mul-one (n * 2 ^ 1074)) v.2)
    ∙ sym (value_bits (of_bits binary64 a) s (n * 2 ^ 1074) v.1)
    ∙ kept_word a fits (omega (arith, hi))

-- ---- NaNs, infinities and zeros, in every direction
same_kind : (t : Direction) (x : Float) → is_nan (round_to_integral t binary64 x) ≡ is_nan x
unfolding round_to_integral is_nan
same_kind t nan = refl
same_kind t (inf s) = refl
same_kind t (fin s m e) = round_number s (whole t s (m * up e) (down e)) 1

pub nan_marked : (t : Direction) (a : ℕ) → is_nan (value a) ≡ true → bit_or a (2 ^ 51) ≡ integral t a
nan_marked t a e = marked a [] e ∙ nan_word (a ∷ []) (round_to_integral t binary64 (value a)) (same_kind t (value a) ∙ e)

pub number_rounded : (t : Direction) (a : ℕ) → a % 2 ^ 63 ≤ 2047 * 2 ^ 52 → to_bits binary64 (round_to_integral t binary64 (value a)) ≡ integral t a
number_rounded t a h = number_word (a ∷ []) (round_to_integral t binary64 (value a)) (same_kind t (value a) ∙ number a h)

pub infinite_word : (t : Direction) (a : ℕ) → a < 2 ^ 64 → a % 2 ^ 63 ≡ 2047 * 2 ^ 52 → to_bits binary64 (round_to_integral t binary64 (of_bits binary64 a)) ≡ a
unfolding round_to_integral
infinite_word t a h e =
    ap (λ (x : Float). to_bits binary64 (round_to_integral t binary64 x)) (word_infinite a e) ∙ ap (to_bits binary64) (sym (word_infinite a e)) ∙ kept_word a h (omega (arith, e))

pub zero_word : (t : Direction) (a : ℕ) → a < 2 ^ 64 → a % 2 ^ 63 ≡ 0 → to_bits binary64 (round_to_integral t binary64 (of_bits binary64 a)) ≡ a
unfolding round_to_integral round to_bits
zero_word t a h e =
    ap (λ (x : Float). to_bits binary64 (round_to_integral t binary64 x)) (word_zero a e) ∙ go t (leb (2 ^ 63) a) ∙ ap (to_bits binary64) (sym (word_zero a e)) ∙ kept_word a h (omega (arith, e))
  where
    go : (t : Direction) (s : Bool) → to_bits binary64 (round_to_integral t binary64 (fin s 0 (pos 0))) ≡ to_bits binary64 (fin s 0 (pos 0))
    go TiesToEven true = refl
    go TiesToEven false = refl
    go TowardNegative true = refl
    go TowardNegative false = refl
    go TowardPositive true = refl
    go TowardPositive false = refl
    go TowardZero true = refl
    go TowardZero false = refl

-- ---- a word taken apart: the whole number that its significand over 2 ^ k goes to
pub small_word : (t : Direction) (a : ℕ) (s : Bool) (m : ℕ) (e : ℤ) (k : ℕ) → HasValue (of_bits binary64 a) s (m * up e) (down e) → Is e 0 k
    → round_to_integral t binary64 (of_bits binary64 a) ≡ round binary64 s (whole t s m (2 ^ k)) 1
small_word t a s m e k v i =
    integral_at t (of_bits binary64 a) s (m * up e) (down e) (down_pos e) v
    ∙ ap (λ (n : ℕ). round binary64 s n 1)
    (whole_same (m * up e) (down e) m (2 ^ k) (down_pos e) (pow_pos k) (native.Mathlib.Nat.mul_assoc m (up e) (2 ^ k) ∙ ap (λ (x : ℕ). m * x) (is_pow e 0 k i ∙ native.Mathlib.Nat.one-mul (down e))) t s)
