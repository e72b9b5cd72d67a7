-- The word of a rounded value, as a sum: `to_bits` of `round` is the sign, k * 2 ^ 52 + q, and no more than infinity's word, where q is the number that rounding keeps
-- and k is how many digits it drops. So a program that adds q to k << 52 need not look at the carry of q. Assumes nothing.
use mathlib.Core.Path.{◌≡◌, refl, sym, ap, ◌∙◌, subst}
use mathlib.Core.Logic.{◌⊎◌, inl, inr}
use mathlib.Core.Bool.{Bool, true, false, not, cond}
use Prim.Native.Nat.{ℕ, suc, ◌+◌, ◌-◌, ◌*◌, ◌/◌, ◌%◌, ◌^◌, ◌≤◌, ◌<◌, min, compare}
use native.Mathlib.Nat.{le_trans, le_of_eq, le_antisymm, lt_of_lt_of_le, lt_of_not-le, not-le_of_lt, eq-or-lt_of_le, eq-zero-or-pos, add_assoc, mul_assoc, mul-le-mul_right, mul-div_cancel, div-eq_of_eq-mul_left, div-div-eq-div-mul, le-div_iff_mul-le, pow-succ'}
use native.Mathlib.Omega.{arith}
use lib.Dec.{T, ltb, ltb→lt, nltb→le}
use lib.Pow.{pow-add, pow_pos, pow_mono, shl_lt}
use lib.Ieee.{Float, nan, inf, fin, binary64, up, down, size, odd, units, round, to_bits}
use lib.Ieee.Digits.{size-lt, size-le, size_reaches}
use lib.Ieee.Fits.{down_pos, nearest-le, kept-lt, round_is}
use lib.Ieee.Exact.{HasValue, odd_sign}
use lib.Ieee.Nearest.{closest, nearest-ge}

-- ---- how many digits a number has
pub size-gt : (n j : ℕ) → 2 ^ j ≤ n → j < size n
size-gt n j h = lt_of_not-le (λ (g : size n ≤ j). not-le_of_lt (lt_of_lt_of_le (size-lt n) (pow_mono g)) h)

pub size_is : (n z : ℕ) → 2 ^ z ≤ n → n < 2 ^ suc z → size n ≡ suc z
size_is n z a b = le_antisymm (size-le n (suc z) b) (size-gt n z a)

-- ---- the word of n units, without its sign
abbrev pub signed : Bool → ℕ → ℕ
signed s w = cond s (2 ^ 63) 0 + w

abbrev pub magnitude : ℕ → ℕ
magnitude n = (size n - 53) * 2 ^ 52 + n / 2 ^ (size n - 53)

abbrev pub infinite : ℕ
infinite = 2047 * 2 ^ 52

abbrev pub saturated : ℕ → ℕ
saturated n = cond (ltb n (2 ^ 2098)) (magnitude n) infinite

pub value_bits : (x : Float) (s : Bool) (n : ℕ) → HasValue x s n (2 ^ 1074) → to_bits binary64 x ≡ signed s (magnitude n)
unfolding to_bits
value_bits nan s n v = absurd v
value_bits (inf t) s n v = absurd v
value_bits (fin t m e) s n v =
    let at : m * up e * 2 ^ 1074 / down e ≡ n = div-eq_of_eq-mul_left (down_pos e) v.1 in
    ap (λ (k : ℕ). cond t (2 ^ 63) 0 + (size k - 53) * 2 ^ 52 + k / 2 ^ (size k - 53)) at
    ∙ ap (λ (b : Bool). cond b (2 ^ 63) 0 + (size n - 53) * 2 ^ 52 + n / 2 ^ (size n - 53)) v.0
    ∙ add_assoc (cond s (2 ^ 63) 0) ((size n - 53) * 2 ^ 52) (n / 2 ^ (size n - 53))

inf_bits : (s : Bool) → to_bits binary64 (inf s) ≡ signed s infinite
unfolding to_bits
inf_bits s = refl

units_saturated : (s : Bool) (q k : ℕ) → to_bits binary64 (units binary64 s q k) ≡ signed s (saturated (q * 2 ^ k))
unfolding units
units_saturated s q k = go (ltb (q * 2 ^ k) (2 ^ 2098))
  where
    go : (b : Bool) → to_bits binary64 (cond b (odd 54 s q k 1074) (inf s)) ≡ signed s (cond b (magnitude (q * 2 ^ k)) infinite)
    go true = value_bits (odd 54 s q k 1074) s (q * 2 ^ k) (odd_sign 54 s q k 1074)
    go false = inf_bits s

-- ---- q has its leading digit, or nothing was dropped
abbrev pub Leads : ℕ → ℕ → Type 0
Leads q k = (k ≡ 0) ⊎ (2 ^ 52 ≤ q)

drop-is : (q k : ℕ) → q < 2 ^ 53 → Leads q k → size (q * 2 ^ k) - 53 ≡ k
drop-is q k h (inl e) = at_zero (size (q * 2 ^ k)) k e (size-le (q * 2 ^ k) (53 + k) (shl_lt 53 k h))
  where
    at_zero : (z k : ℕ) → k ≡ 0 → z ≤ 53 + k → z - 53 ≡ k
    at_zero z k e a = omega arith
drop-is q k h (inr l) =
    between (size (q * 2 ^ k)) k (size-le (q * 2 ^ k) (53 + k) (shl_lt 53 k h))
    (size-gt (q * 2 ^ k) (52 + k) (le_trans (le_of_eq (pow-add 2 52 k)) (mul-le-mul_right (2 ^ k) l)))
  where
    between : (z k : ℕ) → z ≤ 53 + k → 52 + k < z → z - 53 ≡ k
    between z k a b = omega arith

magnitude_is : (q k : ℕ) → q < 2 ^ 53 → Leads q k → magnitude (q * 2 ^ k) ≡ k * 2 ^ 52 + q
magnitude_is q k h l =
    ap (λ (j : ℕ). j * 2 ^ 52 + q * 2 ^ k / 2 ^ j) (drop-is q k h l) ∙ ap (λ (x : ℕ). k * 2 ^ 52 + x) (mul-div_cancel q (pow_pos k))

under : (q k : ℕ) → q < 2 ^ 53 → Leads q k → k * 2 ^ 52 + q < infinite → q * 2 ^ k < 2 ^ 2098
under q k h l u = lt_of_lt_of_le (shl_lt 53 k h) (pow_mono (few l))
  where
    few : Leads q k → 53 + k ≤ 2098
    few (inl e) = omega arith
    few (inr g) = omega arith

over : (q k : ℕ) → q < 2 ^ 53 → Leads q k → infinite ≤ k * 2 ^ 52 + q → 2 ^ 2098 ≤ q * 2 ^ k
over q k h l u = go l
  where
    many : 2046 ≤ k
    many = omega arith

    go : Leads q k → 2 ^ 2098 ≤ q * 2 ^ k
    go (inl e) = absurd (none e many)
      where
        none : k ≡ 0 → 2046 ≤ k → ⊥
        none e m = omega arith
    go (inr g) = le_trans (pow_mono {i = 2098} {j = 52 + k} (omega (arith, many))) (le_trans (le_of_eq (pow-add 2 52 k)) (mul-le-mul_right (2 ^ k) g))

saturated_is : (q k : ℕ) → q < 2 ^ 53 → Leads q k → saturated (q * 2 ^ k) ≡ min (k * 2 ^ 52 + q) infinite
saturated_is q k h l = go (ltb (q * 2 ^ k) (2 ^ 2098)) (ltb→lt (q * 2 ^ k) (2 ^ 2098)) (nltb→le (q * 2 ^ k) (2 ^ 2098))
  where
    go : (b : Bool) → (T b → q * 2 ^ k < 2 ^ 2098) → (T (not b) → 2 ^ 2098 ≤ q * 2 ^ k) → cond b (magnitude (q * 2 ^ k)) infinite ≡ min (k * 2 ^ 52 + q) infinite
    go true y n =
        let below : k * 2 ^ 52 + q < infinite = lt_of_not-le (λ (g : infinite ≤ k * 2 ^ 52 + q). not-le_of_lt (y tt) (over q k h l g)) in
        magnitude_is q k h l ∙ least (k * 2 ^ 52 + q) infinite below
      where
        least : (a b : ℕ) → a < b → a ≡ min a b
        least a b h = omega arith
    go false y n =
        let above : infinite ≤ k * 2 ^ 52 + q = le-of-not (λ (g : k * 2 ^ 52 + q < infinite). not-le_of_lt (under q k h l g) (n tt)) in
        most (k * 2 ^ 52 + q) infinite above
      where
        most : (a b : ℕ) → b ≤ a → b ≡ min a b
        most a b h = omega arith

        le-of-not : {a b : ℕ} → (b < a → ⊥) → a ≤ b
        le-of-not {a} {b} f = native.Mathlib.Nat.le_of_suc-le-suc (lt_of_not-le f)

-- q may be 2 ^ 53: that is 2 ^ 52 with one more digit dropped
pub units_bits : (s : Bool) (q k : ℕ) → q ≤ 2 ^ 53 → Leads q k → to_bits binary64 (units binary64 s q k) ≡ signed s (min (k * 2 ^ 52 + q) infinite)
units_bits s q k h l = units_saturated s q k ∙ ap (signed s) (go (eq-or-lt_of_le h))
  where
    go : (q ≡ 2 ^ 53) ⊎ (q < 2 ^ 53) → saturated (q * 2 ^ k) ≡ min (k * 2 ^ 52 + q) infinite
    go (inl e) =
        ap (λ (x : ℕ). saturated (x * 2 ^ k)) e
        ∙ ap saturated (mul_assoc (2 ^ 52) 2 (2 ^ k) ∙ ap (λ (x : ℕ). 2 ^ 52 * x) (sym (pow-succ' 2 k)))
        ∙ saturated_is (2 ^ 52) (suc k) (omega arith) (inr (omega arith))
        ∙ moved q k e
      where
        moved : (q k : ℕ) → q ≡ 2 ^ 53 → min (suc k * 2 ^ 52 + 2 ^ 52) infinite ≡ min (k * 2 ^ 52 + q) infinite
        moved q k e = ap (λ (x : ℕ). min x infinite) (omega arith)
    go (inr g) = saturated_is q k g l

-- ---- rounding
abbrev pub dropped : ℕ → ℕ → ℕ
dropped n den = size (n / den) - 53

kept-le : (n den : ℕ) → closest n (den * 2 ^ dropped n den) ≤ 2 ^ 53
kept-le n den =
    let k = dropped n den in
    let u = den * 2 ^ k in
    le_trans (nearest-le (n / u) (compare (n % u * 2) u)) (subst (λ (x : ℕ). x < 2 ^ 53) (div-div-eq-div-mul n den (2 ^ k)) (kept-lt 53 (n / den)))

kept_leads : (n den : ℕ) → Leads (closest n (den * 2 ^ dropped n den)) (dropped n den)
kept_leads n den = elim (eq-zero-or-pos (dropped n den)) [
  | inl z ↦ inl z
  | inr p ↦
      let k = dropped n den in
      let u = den * 2 ^ k in
      let w = n / den in
      let a : 2 ^ 52 * 2 ^ k ≤ w = le_trans (le_of_eq (sym (pow-add 2 52 k))) (size_reaches w (52 + k) (in_use (size w) p)) in
      inr (le_trans (subst (λ (x : ℕ). 2 ^ 52 ≤ x) (div-div-eq-div-mul n den (2 ^ k)) ((le-div_iff_mul-le (pow_pos k)).1 a)) (nearest-ge (n / u) (compare (n % u * 2) u)))
]
  where
    in_use : (z : ℕ) → 0 < z - 53 → 52 + (z - 53) < z
    in_use z h = omega arith

pub round_bits : (s : Bool) (num den : ℕ) → let n = num * 2 ^ 1074 in let k = dropped n den in
    to_bits binary64 (round binary64 s num den) ≡ signed s (min (k * 2 ^ 52 + closest n (den * 2 ^ k)) infinite)
round_bits s num den =
    let n = num * 2 ^ 1074 in
    let k = dropped n den in
    ap (to_bits binary64) (round_is binary64 s num den) ∙ units_bits s (closest n (den * 2 ^ k)) k (kept-le n den) (kept_leads n den)
