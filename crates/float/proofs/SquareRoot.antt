-- The rounded root of a value, by the whole root q and the rest r of a radicand of 105 or 106 digits. Assumes nothing.
use mathlib.Core.Path.{◌≡◌, refl, sym, ap, ◌∙◌, subst}
use mathlib.Core.Bool.{Bool, true, false, not, cond}
use Prim.Native.Nat.{ℕ, zero, suc, ◌+◌, ◌-◌, ◌*◌, ◌/◌, ◌%◌, ◌^◌, ◌≤◌, ◌<◌, min, compare, Ordering}
use native.Mathlib.Nat.{le_trans, le_of_eq, lt_of_lt_of_le, lt_of_le_of_lt, lt_of_not-le, lt_irrefl, le_of_suc-le-suc, mul-le-mul, mul-le-mul_right, mul-lt-mul_of_pos_right, mul_assoc, mul_right_comm, mul-mul-mul_comm, mul-pos, div-eq_of_lt-le, div-eq_of_eq-mul_left, pow-succ', pow-le-pow_left}
use native.Mathlib.Omega.{arith}
use lib.Dec.{T, leb, leb→le, nleb→lt}
use mathlib.Core.Logic.{inr}
use lib.Pow.{pow-add, pow_pos, pow_mono, shl_lt}
use lib.IntN.{ℤ, pos, negsuc}
use lib.Signed.{mag}
use lib.Ieee.{Float, nan, inf, fin, binary64, up, down, size, nearest, units, to_bits}
use lib.Ieee.Digits.{size-lt}
use lib.Ieee.Fits.{down_pos, up_pos}
use lib.Ieee.Exact.{HasValue}
use lib.Ieee.Nearest.{div_same}
use Rattle.float.specs.Root.{root_digits, whole_root, round_root, square_root}
use Rattle.float.specs.Laws.{IsWholeRoot}
use Rattle.float.proofs.Closest.{Cmp, cmp_is}
use Rattle.float.proofs.RoundBits.{size_is, units_bits, infinite}
use Rattle.float.specs.Biased.{biased}
use Rattle.float.proofs.Signed.{is_biased, is_shift, is_pow}
use Rattle.float.proofs.RoundWord.{shifts}

-- ---- `whole_root` is the whole root
root_in : (d n : ℕ) → n < 4 ^ d → IsWholeRoot n (root_digits d n)
unfolding root_digits
root_in zero n h = (omega arith, omega arith)
root_in (suc d) n h = go (root_digits d (n / 4)) (root_in d (n / 4) (quarter n (4 ^ d) (subst (λ (x : ℕ). n < x) (pow-succ' 4 d) h)))
  where
    quarter : (n p : ℕ) → n < 4 * p → n / 4 < p
    quarter n p h = omega arith

    go : (r : ℕ) → IsWholeRoot (n / 4) r → IsWholeRoot n (cond (leb ((2 * r + 1) * (2 * r + 1)) n) (2 * r + 1) (2 * r))
    go r v = pick (leb ((2 * r + 1) * (2 * r + 1)) n) (leb→le ((2 * r + 1) * (2 * r + 1)) n) (nleb→lt ((2 * r + 1) * (2 * r + 1)) n)
      where
        pick : (b : Bool) → (T b → (2 * r + 1) * (2 * r + 1) ≤ n) → (T (not b) → n < (2 * r + 1) * (2 * r + 1)) → IsWholeRoot n (cond b (2 * r + 1) (2 * r))
        pick true y x = (y tt, omega (arith, v.1))
        pick false y x = (omega (arith, v.0), x tt)

two_four : (z : ℕ) → 2 ^ z ≤ 4 ^ z
two_four z = pow-le-pow_left (omega arith) z

pub whole-root : (n : ℕ) → IsWholeRoot n (whole_root n)
unfolding whole_root
whole-root n = root_in (size n) n (lt_of_lt_of_le (size-lt n) (two_four (size n)))

-- a square that is no more than n is that of a number no more than the root, and so for one above
pub root_ge : (n r q : ℕ) → IsWholeRoot n r → q * q ≤ n → q ≤ r
root_ge n r q v h = le_of_suc-le-suc (lt_of_not-le (λ (g : suc r ≤ q). lt_irrefl n (lt_of_lt_of_le v.1 (le_trans (mul-le-mul (omega (arith, g)) (omega (arith, g))) h))))

pub root-lt : (n r q : ℕ) → IsWholeRoot n r → n < q * q → r < q
root-lt n r q v h = lt_of_not-le (λ (g : q ≤ r). lt_irrefl n (lt_of_lt_of_le h (le_trans (mul-le-mul g g) v.0)))

-- ---- the rounded root of (q * q + r) * 4 ^ k
four : (k : ℕ) → 4 ^ k ≡ 2 ^ (2 * k)
four zero = refl
four (suc k) = pow-succ' 4 k ∙ ap (λ (x : ℕ). 4 * x) (four k) ∙ sym (ap (λ (z : ℕ). 2 ^ z) {x = 2 * suc k} {y = 2 + 2 * k} (omega arith) ∙ pow-add 2 2 (2 * k))

square : (q k : ℕ) → q * 2 ^ k * (q * 2 ^ k) ≡ q * q * 4 ^ k
square q k = mul-mul-mul_comm q (2 ^ k) q (2 ^ k) ∙ ap (λ (x : ℕ). q * q * x) (sym (pow-add 2 k k) ∙ ap (λ (z : ℕ). 2 ^ z) {x = k + k} {y = 2 * k} (omega arith) ∙ sym (four k))

four-pos : (k : ℕ) → 0 < 4 ^ k
four-pos k = lt_of_lt_of_le (pow_pos k) (two_four k)

module _ (q r k : ℕ) (rest : r ≤ 2 * q) (lo : 2 ^ 52 ≤ q) (hi : q < 2 ^ 53) where
  abbrev n : ℕ
  n = (q * q + r) * 4 ^ k

  above : q * 2 ^ k ≤ whole_root n
  above = root_ge n (whole_root n) (q * 2 ^ k) (whole-root n) (le_trans (le_of_eq (square q k)) (mul-le-mul_right (4 ^ k) (omega arith)))

  below : whole_root n < (q + 1) * 2 ^ k
  below =
      root-lt n (whole_root n) ((q + 1) * 2 ^ k) (whole-root n)
      (lt_of_lt_of_le (mul-lt-mul_of_pos_right {m = q * q + r} {n = (q + 1) * (q + 1)} (omega arith) (four-pos k)) (le_of_eq (sym (square (q + 1) k))))

  drop-is : size (whole_root n) - 53 ≡ k
  drop-is =
      ap (λ (z : ℕ). z - 53)
      (size_is (whole_root n) (52 + k)
      (le_trans (le_of_eq (pow-add 2 52 k)) (le_trans (mul-le-mul_right (2 ^ k) lo) above))
      (lt_of_lt_of_le below (le_trans (mul-le-mul_right {m = q + 1} {n = 2 ^ 53} (2 ^ k) (omega arith)) (le_of_eq (sym (pow-add 2 53 k) ∙ ap (λ (z : ℕ). 2 ^ z) (next k))))))
      ∙ back k
    where
      next : (k : ℕ) → 53 + k ≡ suc (52 + k)
      next k = omega arith

      back : (k : ℕ) → suc (52 + k) - 53 ≡ k
      back k = omega arith

  kept-is : whole_root n / 2 ^ k ≡ q
  kept-is = div-eq_of_lt-le (2 ^ k) above below

  pub root-of : (o : Ordering) → Cmp o (4 * (q * q + r)) ((2 * q + 1) * (2 * q + 1)) → round_root binary64 n ≡ units binary64 false (nearest q o) k
  unfolding round_root
  root-of o h =
      ap (λ (j : ℕ). units binary64 false (nearest (whole_root n / 2 ^ j) (compare (4 * n) ((2 * (whole_root n / 2 ^ j) + 1) * (2 * (whole_root n / 2 ^ j) + 1) * 4 ^ j))) j) drop-is
      ∙ ap (λ (x : ℕ). units binary64 false (nearest x (compare (4 * n) ((2 * x + 1) * (2 * x + 1) * 4 ^ k))) k) kept-is
      ∙ ap (λ (c : Ordering). units binary64 false (nearest q c) k) (cmp_is o (4 * n) ((2 * q + 1) * (2 * q + 1) * 4 ^ k) (scaled o h))
    where
      scaled : (o : Ordering) → Cmp o (4 * (q * q + r)) ((2 * q + 1) * (2 * q + 1)) → Cmp o (4 * n) ((2 * q + 1) * (2 * q + 1) * 4 ^ k)
      scaled Ordering.lt h = subst (λ (x : ℕ). x < (2 * q + 1) * (2 * q + 1) * 4 ^ k) (mul_assoc 4 (q * q + r) (4 ^ k)) (mul-lt-mul_of_pos_right h (four-pos k))
      scaled Ordering.eq h = sym (mul_assoc 4 (q * q + r) (4 ^ k)) ∙ ap (λ (x : ℕ). x * 4 ^ k) h
      scaled Ordering.gt h = subst (λ (x : ℕ). (2 * q + 1) * (2 * q + 1) * 4 ^ k < x) (mul_assoc 4 (q * q + r) (4 ^ k)) (mul-lt-mul_of_pos_right h (four-pos k))

-- ---- `square_root` of a positive value p / c
-- a fraction above zero has a significand above zero
significand_pos : (m u c : ℕ) → 0 < m * u * c → 0 < m
significand_pos zero u c h = absurd (lt_irrefl 0 (subst (λ (z : ℕ). 0 < z) (ap (λ (z : ℕ). z * c) (native.Mathlib.Nat.zero-mul u) ∙ native.Mathlib.Nat.zero-mul c) h))
significand_pos (suc m) u c h = native.Mathlib.Nat.zero-lt-suc m

root_positive : (m : ℕ) (e : ℤ) → 0 < m → square_root binary64 (fin false m e) ≡ round_root binary64 (m * up e * 2 ^ 2148 / down e)
unfolding square_root
root_positive zero e h = absurd (lt_irrefl 0 h)
root_positive (suc m) e h = refl

pub root_at : (x : Float) (p c : ℕ) → 0 < p → 0 < c → HasValue x false p c → square_root binary64 x ≡ round_root binary64 (p * 2 ^ 2148 / c)
root_at nan p c P C v = absurd v
root_at (inf s) p c P C v = absurd v
root_at (fin s m e) p c P C v =
    let e1 : m * up e * c ≡ p * down e = v.1 in
    ap (λ (t : Bool). square_root binary64 (fin t m e)) v.0
    ∙ root_positive m e (significand_pos m (up e) c (subst (λ (z : ℕ). 0 < z) (sym e1) (mul-pos P (down_pos e))))
    ∙ ap (round_root binary64)
    (div_same (m * up e * 2 ^ 2148) (down e) (p * 2 ^ 2148) c (down_pos e) C
    (mul_right_comm (m * up e) (2 ^ 2148) c ∙ ap (λ (z : ℕ). z * 2 ^ 2148) e1 ∙ mul_right_comm p (down e) (2 ^ 2148)))

-- ---- the root of m * 2 ^ e, by the whole root of m and the exponent's odd digit
module _ (m : ℕ) (e : ℤ) (M : ℕ) (q r : ℕ) (small : mag e < 1200) (lo : 2 ^ 52 ≤ m) (hi : m < 2 ^ 53)
    (M-is : M ≡ m * 2 ^ (biased e % 2)) (is : q * q + r ≡ M * 2 ^ 52) (rest : r ≤ 2 * q) where
  abbrev b : ℕ
  b = biased e

  abbrev pub k : ℕ
  k = biased e / 2 - 3048

  range : (6992 ≤ b) × (b < 9392)
  range = go e small
    where
      go : (z : ℤ) → mag z < 1200 → (6992 ≤ biased z) × (biased z < 9392)
      go (pos n) h = (omega arith, omega arith)
      go (negsuc n) h = (omega arith, omega arith)

  M-lo : 2 ^ 52 ≤ M
  M-lo = le_trans lo (le_trans (le_of_eq (sym (native.Mathlib.Nat.mul-one m))) (le_trans (native.Mathlib.Nat.mul-le-mul_left m (pow_pos (b % 2))) (le_of_eq (sym M-is))))

  M-hi : M < 2 ^ 54
  M-hi = lt_of_le_of_lt (le_of_eq M-is) (lt_of_lt_of_le (shl_lt 53 (b % 2) hi) (pow_mono {i = 53 + b % 2} {j = 54} (omega arith)))

  root_is : IsWholeRoot (M * 2 ^ 52) q
  root_is = (omega (arith, is), omega (arith, is, rest))

  pub q-lo : 2 ^ 52 ≤ q
  q-lo = root_ge (M * 2 ^ 52) q (2 ^ 52) root_is (omega (arith, M-lo))

  pub q-hi : q < 2 ^ 53
  q-hi = root-lt (M * 2 ^ 52) q (2 ^ 53) root_is (omega (arith, M-hi))

  pub k-hi : k ≤ 1648
  k-hi = omega (arith, range.1)

  -- the operand, in squared units of 2 ^ k * 2 ^ -1074
  pub scaled : m * up e * 2 ^ 2148 ≡ (q * q + r) * 4 ^ k * down e
  scaled =
      mul_assoc m (up e) (2 ^ 2148)
      ∙ ap (λ (x : ℕ). m * x) (is_pow e (b - 6044) 2148 (is_shift e b 8192 (b - 6044) 2148 (is_biased e (omega arith)) (omega (arith, range.0))))
      ∙ sym (mul_assoc m (2 ^ (b - 6044)) (down e))
      ∙ ap (λ (x : ℕ). x * down e) (sym powers)
    where
      powers : (q * q + r) * 4 ^ k ≡ m * 2 ^ (b - 6044)
      powers =
          ap (λ (x : ℕ). x * 4 ^ k) (is ∙ ap (λ (x : ℕ). x * 2 ^ 52) M-is)
          ∙ ap (λ (x : ℕ). m * 2 ^ (b % 2) * 2 ^ 52 * x) (four k)
          ∙ ap (λ (x : ℕ). x * 2 ^ (2 * k)) (shifts m (b % 2) 52)
          ∙ shifts m (b % 2 + 52) (2 * k)
          ∙ ap (λ (x : ℕ). m * 2 ^ x) {x = b % 2 + 52 + 2 * k} {y = b - 6044} (omega (arith, range.0))

  pub root-units : (x : Float) → HasValue x false (m * up e) (down e) → (o : Ordering) → Cmp o (4 * (q * q + r)) ((2 * q + 1) * (2 * q + 1))
      → square_root binary64 x ≡ units binary64 false (nearest q o) k
  root-units x v o h =
      root_at x (m * up e) (down e) (mul-pos (omega arith) (up_pos e)) (down_pos e) v
      ∙ ap (round_root binary64) (div-eq_of_eq-mul_left (down_pos e) scaled)
      ∙ root-of q r k rest q-lo q-hi o h

  pub root-word : (x : Float) → HasValue x false (m * up e) (down e) → (o : Ordering) → Cmp o (4 * (q * q + r)) ((2 * q + 1) * (2 * q + 1))
      → nearest q o ≤ 2 ^ 53 → 2 ^ 52 ≤ nearest q o → to_bits binary64 (square_root binary64 x) ≡ k * 2 ^ 52 + nearest q o
  root-word x v o h top bot =
      ap (to_bits binary64) (root-units x v o h) ∙ units_bits false (nearest q o) k top (inr bot) ∙ plain k (nearest q o) k-hi top
    where
      plain : (k q : ℕ) → k ≤ 1648 → q ≤ 2 ^ 53 → 0 + min (k * 2 ^ 52 + q) infinite ≡ k * 2 ^ 52 + q
      plain k q h g = omega arith

-- ---- the other words
pub root_negative : (x : Float) (p c : ℕ) → 0 < p → 0 < c → HasValue x true p c → square_root binary64 x ≡ nan
unfolding square_root
root_negative nan p c P C v = absurd v
root_negative (inf s) p c P C v = absurd v
root_negative (fin s m e) p c P C v =
    ap (λ (t : Bool). square_root binary64 (fin t m e)) v.0 ∙ go m (significand_pos m (up e) c (subst (λ (z : ℕ). 0 < z) (sym v.1) (mul-pos P (down_pos e))))
  where
    go : (m : ℕ) → 0 < m → square_root binary64 (fin true m e) ≡ nan
    go zero h = absurd (lt_irrefl 0 h)
    go (suc m) h = refl
