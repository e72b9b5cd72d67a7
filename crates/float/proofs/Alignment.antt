-- Two numbers of two words, each a multiple of 2 ^ 21 and of 126 or 127 digits (`Scaled`): the one with the smaller exponent is moved down with a sticky digit. Assumes nothing.
use mathlib.Core.Path.{◌≡◌, sym, ap, ap₂, ◌∙◌, subst}
use mathlib.Core.Logic.{◌⊎◌, inl, inr}
use mathlib.Core.Bool.{Bool, true, false, not}
use Prim.Native.Nat.{ℕ, ◌+◌, ◌-◌, ◌*◌, ◌/◌, ◌^◌, ◌≤◌, ◌<◌}
use native.Mathlib.Nat.{le_of_eq, lt_of_lt_of_le, lt_of_le_of_lt, lt_of_mul-lt-mul_right, mul-lt-mul_of_pos_right, mul-le-mul_left, eq_of_mul-eq-mul_right, mul_assoc, mul-le-mul}
use native.Mathlib.Omega.{arith}
use lib.Dec.{T, leb, leb→le, nleb→lt}
use lib.Pow.{pow_pos, pow_mono}
use lib.IntN.{ℤ}
use lib.Signed.{mag}
use lib.Ieee.{binary64, up, down, sum}
use lib.Ieee.Fits.{down_pos}
use Rattle.float.specs.Near.{Near, both, Scaled}
use Rattle.float.specs.Biased.{biased}
use Rattle.float.specs.Unpacked.{Normalized}
use Rattle.float.proofs.Signed.{is_biased, is_pow}
use Rattle.float.proofs.Sticky.{near_scale, near_le, one_more}
use Rattle.float.proofs.FusedSum.{sticky_sum, sum_same}
use Rattle.float.proofs.RoundWord.{shifts}

near_exact : (v w u : ℕ) → 0 < u → Near (v * u) w u → v ≡ w
near_exact v w u U (inl e) = eq_of_mul-eq-mul_right u U v w e
near_exact v w u U (inr m) =
    let a : w < v + 1 = lt_of_mul-lt-mul_right u (lt_of_lt_of_le m.1 (le_of_eq (one_more v u))) in
    let b : v < w + 1 = lt_of_mul-lt-mul_right u (lt_of_lt_of_le m.2 (le_of_eq (one_more w u))) in
    omega arith

aligned : (s t : Bool) (k z m p q d : ℕ) → Near (z * 2 ^ 21) m (2 ^ d) → p ≡ q + d → 2 ^ 125 ≤ 2 * k → z * 2 ^ 21 < 2 ^ 105 * 2 ^ 22
    → sum binary64 s (2 * k * 2 ^ p) t (z * 2 ^ 21 * 2 ^ q) (2 ^ 8192) ≡ sum binary64 s (2 * k * 2 ^ p) t (m * 2 ^ p) (2 ^ 8192)
aligned s t k z m p q d n e lo hi = sticky_sum s t k (z * 2 ^ 21 * 2 ^ q) m p 8192 scaled (go (leb d 21) (leb→le d 21) (nleb→lt d 21))
  where
    scaled : Near (z * 2 ^ 21 * 2 ^ q) m (2 ^ p)
    scaled = subst (λ (y : ℕ). Near (z * 2 ^ 21 * 2 ^ q) m (2 ^ y)) (native.Mathlib.Nat.add_comm d q ∙ sym e) (near_scale (z * 2 ^ 21) m d q n)

    go : (b : Bool) → (T b → d ≤ 21) → (T (not b) → 21 < d) → (z * 2 ^ 21 * 2 ^ q ≡ m * 2 ^ p) ⊎ (m + 2 ^ 62 ≤ 2 * k)
    go true y x =
        let h : d ≤ 21 = y tt in
        let whole : z * 2 ^ 21 ≡ z * 2 ^ (21 - d) * 2 ^ d = ap (λ (i : ℕ). z * 2 ^ i) {x = 21} {y = 21 - d + d} (omega arith) ∙ sym (shifts z (21 - d) d) in
        let same : z * 2 ^ (21 - d) ≡ m = near_exact (z * 2 ^ (21 - d)) m (2 ^ d) (pow_pos d) (subst (λ (i : ℕ). Near i m (2 ^ d)) whole n) in
        inl (ap (λ (i : ℕ). i * 2 ^ q) (whole ∙ ap (λ (i : ℕ). i * 2 ^ d) same) ∙ shifts m d q ∙ ap (λ (i : ℕ). m * 2 ^ i) (native.Mathlib.Nat.add_comm d q ∙ sym e))
    go false y x =
        let small : m ≤ 2 ^ 105 = near_le (z * 2 ^ 21) m (2 ^ d) (2 ^ 105) (pow_pos d) (lt_of_lt_of_le hi (mul-le-mul_left (2 ^ 105) (pow_mono {i = 22} {j = d} (x tt)))) n in
        inr (room m (2 * k) small lo)
      where
        room : (m k : ℕ) → m ≤ 2 ^ 105 → 2 ^ 125 ≤ k → m + 2 ^ 62 ≤ k
        room m k a b = omega arith

-- an exponent, counted from -8192
pub pow_sum : (s t : Bool) (m n : ℕ) (z : ℤ) → mag z < 8192 → sum binary64 s (m * up z) t (n * up z) (down z) ≡ sum binary64 s (m * 2 ^ biased z) t (n * 2 ^ biased z) (2 ^ 8192)
pow_sum s t m n z h =
    sum_same s t (m * up z) (n * up z) (down z) (m * 2 ^ biased z) (n * 2 ^ biased z) (2 ^ 8192) (down_pos z) (pow_pos 8192) (move m) (move n)
  where
    move : (x : ℕ) → x * up z * 2 ^ 8192 ≡ x * 2 ^ biased z * down z
    move x = mul_assoc x (up z) (2 ^ 8192) ∙ ap (λ (y : ℕ). x * y) (is_pow z (biased z) 8192 (is_biased z h)) ∙ sym (mul_assoc x (2 ^ biased z) (down z))

-- a and b hold 21 digits more than they need
pub aligned_scaled : (s t : Bool) (a b m p q d : ℕ) → Scaled a → Scaled b → Near b m (2 ^ d) → p ≡ q + d
    → sum binary64 s (a * 2 ^ p) t (m * 2 ^ p) (2 ^ 8192) ≡ sum binary64 s (a * 2 ^ p) t (b * 2 ^ q) (2 ^ 8192)
aligned_scaled s t a b m p q d A B n e =
    let even : a ≡ 2 * (a / 2) = omega (arith, A.whole) in
    let multiple : b ≡ b / 2 ^ 21 * 2 ^ 21 = omega (arith, B.whole) in
    ap (λ (i : ℕ). sum binary64 s (i * 2 ^ p) t (m * 2 ^ p) (2 ^ 8192)) even
    ∙ sym (aligned s t (a / 2) (b / 2 ^ 21) m p q d (subst (λ (i : ℕ). Near i m (2 ^ d)) multiple n) e (subst (λ (i : ℕ). 2 ^ 125 ≤ i) even A.lo) (subst (λ (i : ℕ). i < 2 ^ 127) multiple B.hi))
    ∙ sym (ap₂ (λ (i j : ℕ). sum binary64 s (i * 2 ^ p) t (j * 2 ^ q) (2 ^ 8192)) even multiple)

-- ---- significands of 53 digits: a product and an addend
module _ (m n : ℕ) (x y : ℤ) (M : Normalized m x) (N : Normalized n y) where
  product_is : m * 1024 * (n * 2048) ≡ m * n * 2 ^ 21
  product_is = omega arith

  pub product-scaled : Scaled (m * 1024 * (n * 2048))
  product-scaled =
      let low : 2 ^ 104 ≤ m * n = mul-le-mul {n₁ = 2 ^ 52} {m₁ = 2 ^ 52} M.lo N.lo in
      let high : m * n < 2 ^ 106 = lt_of_le_of_lt (mul-le-mul_left m (native.Mathlib.Nat.le_of_lt N.hi)) (mul-lt-mul_of_pos_right M.hi (pow_pos 53)) in
      record { lo = omega (arith, low, product_is); hi = lt_of_le_of_lt (le_of_eq product_is) (mul-lt-mul_of_pos_right high (pow_pos 21)); whole = omega (arith, product_is) }

  -- the sum that both make
  pub fused-sum : (k p q z : ℕ) → p + 8213 ≡ biased x + biased y → q + 73 ≡ z
      → (s t : Bool) → sum binary64 s (m * 1024 * (n * 2048) * 2 ^ p) t (both (k * 512) 0 * 2 ^ q) (2 ^ 8192) ≡ sum binary64 s (m * n * 2 ^ (biased x + biased y)) t (k * 2 ^ (z + 8192)) (2 ^ 16384)
  fused-sum k p q z P Q s t =
      sum_same s t (m * 1024 * (n * 2048) * 2 ^ p) (both (k * 512) 0 * 2 ^ q) (2 ^ 8192) (m * n * 2 ^ (biased x + biased y)) (k * 2 ^ (z + 8192)) (2 ^ 16384) (pow_pos 8192) (pow_pos 16384)
      (ap (λ (i : ℕ). i * 2 ^ p * 2 ^ 16384) product_is ∙ ap (λ (i : ℕ). i * 2 ^ 16384) (shifts (m * n) 21 p) ∙ shifts (m * n) (21 + p) 16384
      ∙ ap (λ (i : ℕ). m * n * 2 ^ i) {x = 21 + p + 16384} {y = biased x + biased y + 8192} (omega arith) ∙ sym (shifts (m * n) (biased x + biased y) 8192))
      (ap (λ (i : ℕ). i * 2 ^ q * 2 ^ 16384) {x = both (k * 512) 0} {y = k * 2 ^ 73} (omega arith) ∙ ap (λ (i : ℕ). i * 2 ^ 16384) (shifts k 73 q) ∙ shifts k (73 + q) 16384
      ∙ ap (λ (i : ℕ). k * 2 ^ i) {x = 73 + q + 16384} {y = z + 8192 + 8192} (omega arith) ∙ sym (shifts k (z + 8192) 8192))

pub addend_scaled : (k : ℕ) (z : ℤ) → Normalized k z → Scaled (both (k * 512) 0)
addend_scaled k z K =
    let is : both (k * 512) 0 ≡ k * 2 ^ 52 * 2 ^ 21 = omega arith in
    let high : k * 2 ^ 52 < 2 ^ 106 = omega (arith, K.hi) in
    record { lo = omega (arith, is, K.lo); hi = lt_of_le_of_lt (le_of_eq is) (mul-lt-mul_of_pos_right high (pow_pos 21)); whole = omega (arith, is) }
