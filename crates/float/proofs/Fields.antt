-- A word's fields, and the value that they stand for. Assumes nothing.
use mathlib.Core.Path.{◌≡◌, refl, sym, ap, ◌∙◌, subst}
use mathlib.Core.Bool.{Bool, cond}
use Prim.Native.Nat.{ℕ, zero, suc, ◌+◌, ◌-◌, ◌*◌, ◌/◌, ◌%◌, ◌^◌, ◌≤◌, ◌<◌}
use native.Mathlib.Nat.{mul_assoc, mul_right_comm, add_comm, mod-lt, eq_of_mul-eq-mul_right, lt_of_le_of_lt, lt_of_lt_of_le, lt_of_not-le, le_of_suc-le-suc, not-le_of_lt, mul-le-mul_right}
use native.Mathlib.Omega.{arith}
use lib.Dec.{T, leb, eqb, eqb→eq, not_T, lit<}
use lib.IntN.{ℤ, pos, negsuc, ◌-ℤ◌}
use lib.Count.{count_leading_zeros, leading_top}
use lib.Pow.{pow-add, pow_pos, pow_mono, field, shl_lt, mod-pow-add}
use lib.Ieee.{Float, nan, inf, fin, binary64, up, down, odd, of_fields, of_bits}
use lib.Ieee.Bits.{cond_no}
use lib.Ieee.Exact.{HasValue, odd_sign}
use Rattle.float.specs.Unpacked.{Unpacked}
use Rattle.float.proofs.Signed.{Is, is_pos, is_sub, is_shift, is_mag, is_pow, is_bias}

of-fields : (a : ℕ) → of_bits binary64 a ≡ of_fields binary64 (leb (2 ^ 63) a) (a / 2 ^ 52 % 2 ^ 11) (a % 2 ^ 52)
unfolding of_bits
of-fields a = ap (λ (x : ℕ). of_fields binary64 (leb (2 ^ 63) a) x (a % 2 ^ 52)) (field a 11 52)

pub of_sub : (a : ℕ) → a / 2 ^ 52 % 2 ^ 11 ≡ 0 → of_bits binary64 a ≡ odd 53 (leb (2 ^ 63) a) (a % 2 ^ 52) 0 1074
unfolding of_fields
of_sub a e = of-fields a ∙ ap (λ (x : ℕ). of_fields binary64 (leb (2 ^ 63) a) x (a % 2 ^ 52)) e

pub of_normal : (a x : ℕ) → a / 2 ^ 52 % 2 ^ 11 ≡ suc x → suc x < 2047 → of_bits binary64 a ≡ odd 53 (leb (2 ^ 63) a) (2 ^ 52 + a % 2 ^ 52) x 1074
unfolding of_fields
of_normal a x e h =
    let s = leb (2 ^ 63) a in
    let t = a % 2 ^ 52 in
    of-fields a
    ∙ ap (λ (y : ℕ). of_fields binary64 s y t) e
    ∙ cond_no (eqb (suc x) 2047) (cond (eqb t 0) (inf s) nan) (odd 53 s (2 ^ 52 + t) x 1074) (not_T (eqb (suc x) 2047) (λ (p : T (eqb (suc x) 2047)). other x h (eqb→eq (suc x) 2047 p)))
  where
    other : (x : ℕ) → suc x < 2047 → suc x ≡ 2047 → ⊥
    other x a b = omega arith

-- from one fraction to another of the same size
pub rescale : (x : Float) (s : Bool) (w l num den : ℕ) → 0 < l → num * l ≡ w * den → HasValue x s w l → HasValue x s num den
rescale nan s w l num den p h v = v
rescale (inf t) s w l num den p h v = v
rescale (fin t m e) s w l num den p h v = (
  v.0,
  eq_of_mul-eq-mul_right l p (m * up e * den) (num * down e)
      (mul_right_comm (m * up e) den l
      ∙ ap (λ (x : ℕ). x * den) v.1
      ∙ mul_right_comm w (down e) den
      ∙ ap (λ (x : ℕ). x * down e) (sym h)
      ∙ mul_right_comm num l (down e)),
)

-- a subnormal, moved up z digits
pub unpacked_sub : (a z : ℕ) (e : ℤ) → a / 2 ^ 52 % 2 ^ 11 ≡ 0 → z ≤ 52 → 2 ^ 52 ≤ a % 2 ^ 52 * 2 ^ z → a % 2 ^ 52 * 2 ^ z < 2 ^ 53 → Is e 0 (1074 + z)
    → Unpacked a (leb (2 ^ 63) a) (a % 2 ^ 52 * 2 ^ z) e
unpacked_sub a z e f zl lo hi i = record {
  sign = refl;
  value =
      rescale (of_bits binary64 a) (leb (2 ^ 63) a) (t * 2 ^ 0) (2 ^ 1074) (t * 2 ^ z * up e) (down e) (pow_pos 1074)
      (shape t (2 ^ z) (up e) (2 ^ 1074) (2 ^ (1074 + z)) (down e) (pow-add 2 1074 z) (is_pow e 0 (1074 + z) i))
      (subst (λ (x : Float). HasValue x (leb (2 ^ 63) a) (t * 2 ^ 0) (2 ^ 1074)) (sym (of_sub a f)) (odd_sign 53 (leb (2 ^ 63) a) t 0 1074));
  lo = lo;
  hi = hi;
  small = is_mag e 0 (1074 + z) 1200 i (omega arith) (omega arith);
  place = omega (arith, is_bias e 0 (1074 + z) i (omega arith));
}
  where
    t : ℕ
    t = a % 2 ^ 52

    shape : (t p u l q d : ℕ) → q ≡ l * p → u * q ≡ 1 * d → t * p * u * l ≡ t * 1 * d
    shape t p u l q d e h = regroup ∙ ap (λ (x : ℕ). t * (u * x)) (sym e) ∙ ap (λ (x : ℕ). t * x) h ∙ sym (mul_assoc t 1 d)
      where
        regroup : t * p * u * l ≡ t * (u * (l * p))
        regroup = omega arith

pub unpacked_normal : (a x : ℕ) (e : ℤ) → a / 2 ^ 52 % 2 ^ 11 ≡ suc x → suc x < 2047 → Is e (suc x) 1075 → Unpacked a (leb (2 ^ 63) a) (a % 2 ^ 52 + 2 ^ 52) e
unpacked_normal a x e f small i = record {
  sign = refl;
  value =
      rescale (of_bits binary64 a) (leb (2 ^ 63) a) ((2 ^ 52 + t) * 2 ^ x) (2 ^ 1074) ((t + 2 ^ 52) * up e) (down e) (pow_pos 1074)
      (mul_assoc (t + 2 ^ 52) (up e) (2 ^ 1074)
      ∙ ap (λ (y : ℕ). (t + 2 ^ 52) * y) (is_pow e x 1074 (is_shift e (suc x) 1075 x 1074 i (omega arith)))
      ∙ sym (mul_assoc (t + 2 ^ 52) (2 ^ x) (down e))
      ∙ ap (λ (y : ℕ). y * 2 ^ x * down e) (add_comm t (2 ^ 52)))
      (subst (λ (y : Float). HasValue y (leb (2 ^ 63) a) ((2 ^ 52 + t) * 2 ^ x) (2 ^ 1074)) (sym (of_normal a x f small)) (odd_sign 53 (leb (2 ^ 63) a) (2 ^ 52 + t) x 1074));
  lo = omega arith;
  hi = omega (arith, mod-lt a {m = 2 ^ 52} (lit< tt));
  small = is_mag e (suc x) 1075 1200 i (omega arith) (omega arith);
  place = omega (arith, is_bias e (suc x) 1075 i (omega arith), field a 11 52, f);
}
  where
    t : ℕ
    t = a % 2 ^ 52

-- a number of at most w + 1 digits, moved up to w + 1 digits: its leading zeros say how far
pub lifted : (w t : ℕ) → w < 64 → 0 < t → t < 2 ^ suc w → (z : ℕ) × (count_leading_zeros 64 t + w ≡ 63 + z) × (z ≤ w) × (2 ^ w ≤ t * 2 ^ z) × (t * 2 ^ z < 2 ^ suc w)
lifted w t W p h =
    let l = leading_top 64 t p (lt_of_lt_of_le h (pow_mono {i = suc w} {j = 64} W)) in
    let j = l.0 in
    let short : j ≤ w = le_of_suc-le-suc (lt_of_not-le (λ (g : suc w ≤ j). not-le_of_lt (lt_of_le_of_lt l.2 h) (pow_mono g))) in
    let z = w - j in (
      z,
      omega (arith, l.1, short),
      omega arith,
      subst (λ (x : ℕ). x ≤ t * 2 ^ z) (sym (pow-add 2 j z) ∙ ap (λ (x : ℕ). 2 ^ x) {x = j + z} {y = w} (omega (arith, short))) (mul-le-mul_right (2 ^ z) l.2),
      subst (λ (x : ℕ). t * 2 ^ z < 2 ^ x) {x = suc j + z} {y = suc w} (omega (arith, short)) (shl_lt (suc j) z l.3),
    )

-- ---- the kinds of words: zero, finite, infinite (`Nan.antt` has the NaNs)
pub together : (a : ℕ) → a % 2 ^ 63 ≡ (a / 2 ^ 52 % 2 ^ 11) * 2 ^ 52 + a % 2 ^ 52
together a = mod-pow-add a 11 52

pub word_zero : (a : ℕ) → a % 2 ^ 63 ≡ 0 → of_bits binary64 a ≡ fin (leb (2 ^ 63) a) 0 (pos 0)
unfolding odd
word_zero a e =
    let h = together a in
    of_sub a (omega (arith, h)) ∙ ap (λ (t : ℕ). odd 53 (leb (2 ^ 63) a) t 0 1074) {x = a % 2 ^ 52} {y = 0} (omega (arith, h))

pub word_infinite : (a : ℕ) → a % 2 ^ 63 ≡ 2047 * 2 ^ 52 → of_bits binary64 a ≡ inf (leb (2 ^ 63) a)
unfolding of_fields
word_infinite a e =
    let h = together a in
    let l = mod-lt a {m = 2 ^ 52} (lit< tt) in
    of-fields a
    ∙ ap (λ (x : ℕ). of_fields binary64 (leb (2 ^ 63) a) x (a % 2 ^ 52)) {x = a / 2 ^ 52 % 2 ^ 11} {y = 2047} (omega (arith, h, l))
    ∙ ap (λ (t : ℕ). of_fields binary64 (leb (2 ^ 63) a) 2047 t) {x = a % 2 ^ 52} {y = 0} (omega (arith, h, l))

pub word_finite : (a : ℕ) → 0 < a % 2 ^ 63 → a % 2 ^ 63 < 2047 * 2 ^ 52 → (p : ℕ) × (0 < p) × HasValue (of_bits binary64 a) (leb (2 ^ 63) a) p (2 ^ 1074)
word_finite a pos-a fine = go (a / 2 ^ 52 % 2 ^ 11) refl
  where
    go : (x : ℕ) → a / 2 ^ 52 % 2 ^ 11 ≡ x → (p : ℕ) × (0 < p) × HasValue (of_bits binary64 a) (leb (2 ^ 63) a) p (2 ^ 1074)
    go zero e =
        let h = together a in
        (a % 2 ^ 52 * 2 ^ 0, omega (arith, h, e), subst (λ (x : Float). HasValue x (leb (2 ^ 63) a) (a % 2 ^ 52 * 2 ^ 0) (2 ^ 1074)) (sym (of_sub a e)) (odd_sign 53 (leb (2 ^ 63) a) (a % 2 ^ 52) 0 1074))
    go (suc x) e =
        let h = together a in (
          (2 ^ 52 + a % 2 ^ 52) * 2 ^ x,
          native.Mathlib.Nat.mul-pos (omega arith) (pow_pos x),
          subst (λ (y : Float). HasValue y (leb (2 ^ 63) a) ((2 ^ 52 + a % 2 ^ 52) * 2 ^ x) (2 ^ 1074)) (sym (of_normal a x e (omega (arith, h, e)))) (odd_sign 53 (leb (2 ^ 63) a) (2 ^ 52 + a % 2 ^ 52) x 1074),
        )

-- every finite word but zero is a significand of 53 digits and an exponent
pub unpacked : (a : ℕ) → 0 < a % 2 ^ 63 → a % 2 ^ 63 < 2047 * 2 ^ 52 → (m : ℕ) × (e : ℤ) × Unpacked a (leb (2 ^ 63) a) m e
unpacked a pos-a fine = go (a / 2 ^ 52 % 2 ^ 11) refl
  where
    go : (x : ℕ) → a / 2 ^ 52 % 2 ^ 11 ≡ x → (m : ℕ) × (e : ℤ) × Unpacked a (leb (2 ^ 63) a) m e
    go zero f =
        let l = lifted 52 (a % 2 ^ 52) (lit< tt) (omega (arith, together a, f)) (omega (arith, mod-lt a {m = 2 ^ 52} (lit< tt))) in
        let z = l.0 in
        (a % 2 ^ 52 * 2 ^ z, negsuc (1073 + z), unpacked_sub a z (negsuc (1073 + z)) f l.2 l.3 l.4 (omega arith))
    go (suc x) f =
        let e = pos (suc x) -ℤ pos 1075 in
        (a % 2 ^ 52 + 2 ^ 52, e, unpacked_normal a x e f (omega (arith, together a, f)) (is_shift e (suc x + 0) (0 + 1075) (suc x) 1075 (is_sub (pos (suc x)) (pos 1075) (suc x) 0 1075 0 (is_pos (suc x)) (is_pos 1075)) (omega arith)))
