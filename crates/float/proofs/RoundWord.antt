-- w * 2 ^ a / 2 ^ b rounded, for a w of 63 digits: how many digits are dropped and which number is kept goes by a and b alone. Assumes nothing.
use mathlib.Core.Path.{◌≡◌, sym, ap, ◌∙◌, subst}
use mathlib.Core.Bool.{Bool, true, false, not}
use Prim.Native.Nat.{ℕ, ◌+◌, ◌-◌, ◌*◌, ◌/◌, ◌%◌, ◌^◌, ◌≤◌, ◌<◌, min, compare}
use native.Mathlib.Nat.{le_trans, le_of_eq, lt_of_lt_of_le, mul_assoc, mul-pos, mul-le-mul_right, le-div_iff_mul-le, div-lt_iff_lt-mul}
use native.Mathlib.Omega.{arith}
use lib.Dec.{T, leb, leb→le, nleb→lt}
use lib.IntN.{ℤ}
use lib.Pow.{pow-add, pow_pos, pow_mono, shl_lt, shr_lt}
use lib.Ieee.{binary64, up, down, size, round, to_bits}
use lib.Ieee.Digits.{size-le}
use lib.Ieee.Fits.{down_pos, nearest-le}
use lib.Ieee.Nearest.{closest, closest_same, nearest-ge}
use lib.Ieee.Scale.{round_same}
use Rattle.float.proofs.RoundBits.{size-gt, signed, infinite, dropped, round_bits}
use Rattle.float.proofs.Closest.{closest_none}
use Rattle.float.proofs.Signed.{Is, is_pow}

pub shifts : (w i j : ℕ) → w * 2 ^ i * 2 ^ j ≡ w * 2 ^ (i + j)
shifts w i j = mul_assoc w (2 ^ i) (2 ^ j) ∙ ap (λ (x : ℕ). w * x) (sym (pow-add 2 i j))

module _ (w a b : ℕ) (lo : 2 ^ 62 ≤ w) (hi : w < 2 ^ 63) where
  drop-is : dropped (w * 2 ^ a * 2 ^ 1074) (2 ^ b) ≡ a + 1084 - b
  drop-is =
      let n = w * 2 ^ a * 2 ^ 1074 in
      let k = a + 1084 - b in
      let n-is : n ≡ w * 2 ^ (a + 1074) = shifts w a 1074 in
      let top : size (n / 2 ^ b) ≤ 53 + k =
      size-le (n / 2 ^ b) (53 + k)
      ((div-lt_iff_lt-mul (pow_pos b)).1
      (subst (λ (x : ℕ). x < 2 ^ (53 + k) * 2 ^ b) (sym n-is)
      (lt_of_lt_of_le (shl_lt 63 (a + 1074) hi) (le_trans (pow_mono {i = 63 + (a + 1074)} {j = 53 + k + b} (omega arith)) (le_of_eq (pow-add 2 (53 + k) b)))))) in
      go (leb b (a + 1084)) (leb→le b (a + 1084)) (nleb→lt b (a + 1084)) top
    where
      go : (t : Bool) → (T t → b ≤ a + 1084) → (T (not t) → a + 1084 < b) → size (w * 2 ^ a * 2 ^ 1074 / 2 ^ b) ≤ 53 + (a + 1084 - b)
          → size (w * 2 ^ a * 2 ^ 1074 / 2 ^ b) - 53 ≡ a + 1084 - b
      go true y f top =
          let n = w * 2 ^ a * 2 ^ 1074 in
          let k = a + 1084 - b in
          let h : b ≤ a + 1084 = y tt in
          let reach : 2 ^ (52 + k) * 2 ^ b ≤ n =
          le_trans (le_of_eq (sym (pow-add 2 (52 + k) b)))
          (le_trans (pow_mono {i = 52 + k + b} {j = 62 + (a + 1074)} (omega arith))
          (le_trans (le_of_eq (pow-add 2 62 (a + 1074))) (le_trans (mul-le-mul_right (2 ^ (a + 1074)) lo) (le_of_eq (sym (shifts w a 1074)))))) in
          let bot : 52 + k < size (n / 2 ^ b) = size-gt (n / 2 ^ b) (52 + k) ((le-div_iff_mul-le (pow_pos b)).1 reach) in
          between (size (n / 2 ^ b)) k top bot
        where
          between : (z k : ℕ) → z ≤ 53 + k → 52 + k < z → z - 53 ≡ k
          between z k a b = omega arith
      go false y f top = none (size (w * 2 ^ a * 2 ^ 1074 / 2 ^ b)) (a + 1084) b (f tt) top
        where
          none : (z c b : ℕ) → c < b → z ≤ 53 + (c - b) → z - 53 ≡ c - b
          none z c b h t = omega arith

  kept-is : closest (w * 2 ^ a * 2 ^ 1074) (2 ^ b * 2 ^ (a + 1084 - b)) ≡ closest w (2 ^ (10 + (b - (a + 1084))))
  kept-is =
      let k = a + 1084 - b in
      let t = 10 + (b - (a + 1084)) in
      closest_same (w * 2 ^ a * 2 ^ 1074) (2 ^ b * 2 ^ k) w (2 ^ t) (mul-pos (pow_pos b) (pow_pos k)) (pow_pos t)
      (ap (λ (x : ℕ). x * 2 ^ t) (shifts w a 1074) ∙ shifts w (a + 1074) t ∙ ap (λ (x : ℕ). w * 2 ^ x) (even a b) ∙ ap (λ (x : ℕ). w * x) (pow-add 2 b k))
    where
      even : (a b : ℕ) → a + 1074 + (10 + (b - (a + 1084))) ≡ b + (a + 1084 - b)
      even a b = omega arith

  pub round-word : (s : Bool) → to_bits binary64 (round binary64 s (w * 2 ^ a) (2 ^ b))
      ≡ signed s (min ((a + 1084 - b) * 2 ^ 52 + closest w (2 ^ (10 + (b - (a + 1084))))) infinite)
  round-word s =
      let n = w * 2 ^ a * 2 ^ 1074 in
      round_bits s (w * 2 ^ a) (2 ^ b)
      ∙ ap (λ (k : ℕ). signed s (min (k * 2 ^ 52 + closest n (2 ^ b * 2 ^ k)) infinite)) drop-is
      ∙ ap (λ (q : ℕ). signed s (min ((a + 1084 - b) * 2 ^ 52 + q) infinite)) kept-is

-- 2 ^ z by its two numbers
pub round_pow : (s : Bool) (w : ℕ) (z : ℤ) (a b : ℕ) → Is z a b → round binary64 s (w * up z) (down z) ≡ round binary64 s (w * 2 ^ a) (2 ^ b)
round_pow s w z a b h =
    round_same binary64 s (w * up z) (down z) (w * 2 ^ a) (2 ^ b) (down_pos z) (pow_pos b)
    (mul_assoc w (up z) (2 ^ b) ∙ ap (λ (x : ℕ). w * x) (is_pow z a b h) ∙ sym (mul_assoc w (2 ^ a) (down z)))

-- ---- what `pack` computes, by cases of a: e is a - 8192
module _ (w a : ℕ) (lo : 2 ^ 62 ≤ w) (hi : w < 2 ^ 63) where
  pub kept-le : (t : ℕ) → 10 ≤ t → closest w (2 ^ t) ≤ 2 ^ 53
  kept-le t h = le_trans (nearest-le (w / 2 ^ t) (compare (w % 2 ^ t * 2) (2 ^ t))) (shr_lt 53 t (lt_of_lt_of_le hi (pow_mono {i = 63} {j = 53 + t} (omega arith))))

  pub too_large : 9153 < a → min ((a + 1084 - 8192) * 2 ^ 52 + closest w (2 ^ (10 + (8192 - (a + 1084))))) infinite ≡ infinite
  too_large h =
      let t-is : 10 + (8192 - (a + 1084)) ≡ 10 = omega arith in
      let q : 2 ^ 52 ≤ closest w (2 ^ 10) = le_trans (omega arith) (nearest-ge (w / 2 ^ 10) (compare (w % 2 ^ 10 * 2) (2 ^ 10))) in
      ap (λ (t : ℕ). min ((a + 1084 - 8192) * 2 ^ 52 + closest w (2 ^ t)) infinite) t-is ∙ most a (closest w (2 ^ 10)) h q
    where
      most : (a q : ℕ) → 9153 < a → 2 ^ 52 ≤ q → min ((a + 1084 - 8192) * 2 ^ 52 + q) infinite ≡ infinite
      most a q h g = omega arith

  pub too_small : a < 7055 → min ((a + 1084 - 8192) * 2 ^ 52 + closest w (2 ^ (10 + (8192 - (a + 1084))))) infinite ≡ 0
  too_small h =
      ap (λ (x : ℕ). min ((a + 1084 - 8192) * 2 ^ 52 + x) infinite) (closest_none w (10 + (8192 - (a + 1084))) hi (omega arith)) ∙ none a h
    where
      none : (a : ℕ) → a < 7055 → min ((a + 1084 - 8192) * 2 ^ 52 + 0) infinite ≡ 0
      none a h = omega arith

  pub subnormal : (t : ℕ) → a < 7108 → t ≡ 7118 - a → min ((a + 1084 - 8192) * 2 ^ 52 + closest w (2 ^ (10 + (8192 - (a + 1084))))) infinite ≡ closest w (2 ^ t)
  subnormal t h e =
      ap (λ (x : ℕ). min ((a + 1084 - 8192) * 2 ^ 52 + closest w (2 ^ x)) infinite) (omega arith) ∙ few a (closest w (2 ^ t)) h (kept-le t (omega arith))
    where
      few : (a q : ℕ) → a < 7108 → q ≤ 2 ^ 53 → min ((a + 1084 - 8192) * 2 ^ 52 + q) infinite ≡ q
      few a q h g = omega arith

  pub normal : (k : ℕ) → a ≤ 9153 → 7108 ≤ a → k ≡ a - 7108
      → (k * 2 ^ 52 + closest w (2 ^ 10) ≤ infinite) × (min ((a + 1084 - 8192) * 2 ^ 52 + closest w (2 ^ (10 + (8192 - (a + 1084))))) infinite ≡ k * 2 ^ 52 + closest w (2 ^ 10))
  normal k h g e =
      let q = kept-le 10 (omega arith) in
      let t-is : 10 + (8192 - (a + 1084)) ≡ 10 = omega arith in
      (omega (arith, q), ap (λ (t : ℕ). min ((a + 1084 - 8192) * 2 ^ 52 + closest w (2 ^ t)) infinite) t-is ∙ all a k (closest w (2 ^ 10)) h g e q)
    where
      all : (a k q : ℕ) → a ≤ 9153 → 7108 ≤ a → k ≡ a - 7108 → q ≤ 2 ^ 53 → min ((a + 1084 - 8192) * 2 ^ 52 + q) infinite ≡ k * 2 ^ 52 + q
      all a k q h g e l = omega arith
