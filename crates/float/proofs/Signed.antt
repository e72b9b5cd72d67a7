-- A signed exponent as a difference of two natural numbers, so that `omega` can work with it: `Is z a b` says that z = a - b.
-- Sums, differences, tests, casts and 2 ^ z go over to a and b. Assumes nothing.
use mathlib.Core.Path.{◌≡◌, refl, sym, ap, ◌∙◌, subst}
use mathlib.Core.Bool.{Bool, true, false, not, cond}
use Prim.Native.Nat.{ℕ, zero, suc, ◌+◌, ◌-◌, ◌*◌, ◌/◌, ◌^◌, ◌≤◌, ◌<◌}
use native.Mathlib.Nat.{mul-one, one-mul, mul_comm}
use native.Mathlib.Omega.{arith}
use lib.Dec.{T, ltb, ltb→lt, nltb→le}
use lib.IntN.{ℤ, pos, negsuc, neg_ℤ, nat_abs, sub_ℕ, ◌+ℤ◌, ◌-ℤ◌}
use lib.Signed.{mag, lt_z, non_neg, shr_z}
use lib.Pow.{pow-add}
use lib.Ieee.{up, down}
use Rattle.float.specs.Biased.{biased}
use mir.Syntax.{w32}
use mir.Val.{to_z, of_z}
use mir.Facts.{to_z-of_z}

abbrev pub Is : ℤ → ℕ → ℕ → Type 0
Is (pos n) a b = a ≡ b + n
Is (negsuc n) a b = b ≡ a + suc n

pub is_biased : (z : ℤ) → mag z < 8192 → Is z (biased z) 8192
is_biased (pos n) h = refl
is_biased (negsuc n) h = omega arith

pub is_pos : (n : ℕ) → Is (pos n) n 0
is_pos n = omega arith

is_sub_nat : (a b : ℕ) → Is (sub_ℕ a b) a b
is_sub_nat a b = go (ltb a b) (ltb→lt a b) (nltb→le a b)
  where
    go : (t : Bool) → (T t → a < b) → (T (not t) → b ≤ a) → Is (cond t (negsuc (b - suc a)) (pos (a - b))) a b
    go true y n = let h : a < b = y tt in omega arith
    go false y n = let h : b ≤ a = n tt in omega arith

-- the same difference, from other numbers
pub is_shift : (z : ℤ) (a b c d : ℕ) → Is z a b → a + d ≡ c + b → Is z c d
is_shift (pos n) a b c d h e = omega arith
is_shift (negsuc n) a b c d h e = omega arith

pub is_add : (y z : ℤ) (a b c d : ℕ) → Is y a b → Is z c d → Is (y +ℤ z) (a + c) (b + d)
is_add (pos m) (pos n) a b c d h k = omega arith
is_add (pos m) (negsuc n) a b c d h k = is_shift (sub_ℕ m (suc n)) m (suc n) (a + c) (b + d) (is_sub_nat m (suc n)) (omega arith)
is_add (negsuc m) (pos n) a b c d h k = is_shift (sub_ℕ n (suc m)) n (suc m) (a + c) (b + d) (is_sub_nat n (suc m)) (omega arith)
is_add (negsuc m) (negsuc n) a b c d h k = omega arith

pub is_neg : (z : ℤ) (a b : ℕ) → Is z a b → Is (neg_ℤ z) b a
is_neg (pos zero) a b h = omega arith
is_neg (pos (suc n)) a b h = omega arith
is_neg (negsuc n) a b h = omega arith

pub is_sub : (y z : ℤ) (a b c d : ℕ) → Is y a b → Is z c d → Is (y -ℤ z) (a + d) (b + c)
is_sub y z a b c d h k = is_add y (neg_ℤ z) a b d c h (is_neg z c d k)

pub is_same : (y z : ℤ) (a b : ℕ) → Is y a b → Is z a b → y ≡ z
is_same (pos m) (pos n) a b h k = ap pos (omega arith)
is_same (pos m) (negsuc n) a b h k = absurd (clash a b m n h k)
  where
    clash : (a b m n : ℕ) → a ≡ b + m → b ≡ a + suc n → ⊥
    clash a b m n h k = omega arith
is_same (negsuc m) (pos n) a b h k = absurd (clash a b m n h k)
  where
    clash : (a b m n : ℕ) → b ≡ a + suc m → a ≡ b + n → ⊥
    clash a b m n h k = omega arith
is_same (negsuc m) (negsuc n) a b h k = ap negsuc (omega arith)

-- a number's magnitude, for its range
pub is_mag : (z : ℤ) (a b m : ℕ) → Is z a b → a < b + m → b ≤ a + m → mag z < m
is_mag (pos n) a b m h p q = omega arith
is_mag (negsuc n) a b m h p q = omega arith

-- a test
pub is_lt : (y z : ℤ) (a b c d : ℕ) → Is y a b → Is z c d → lt_z y z ≡ true → a + d < c + b
is_lt (pos m) (pos n) a b c d h k t = let l : m < n = ltb→lt m n (subst T (sym t) tt) in omega arith
is_lt (pos m) (negsuc n) a b c d h k t = absurd (subst T (sym t) tt)
is_lt (negsuc m) (pos n) a b c d h k t = omega arith
is_lt (negsuc m) (negsuc n) a b c d h k t = let l : n < m = ltb→lt n m (subst T (sym t) tt) in omega arith

pub is_ge : (y z : ℤ) (a b c d : ℕ) → Is y a b → Is z c d → lt_z y z ≡ false → c + b ≤ a + d
is_ge (pos m) (pos n) a b c d h k t = let l : n ≤ m = nltb→le m n (subst (λ (x : Bool). T (not x)) (sym t) tt) in omega arith
is_ge (pos m) (negsuc n) a b c d h k t = omega arith
is_ge (negsuc m) (pos n) a b c d h k t = absurd (subst (λ (x : Bool). T (not x)) (sym t) tt)
is_ge (negsuc m) (negsuc n) a b c d h k t = let l : m ≤ n = nltb→le n m (subst (λ (x : Bool). T (not x)) (sym t) tt) in omega arith

-- a cast to an unsigned type
pub is_nonneg : (z : ℤ) (a b : ℕ) → Is z a b → b ≤ a → T (non_neg z)
is_nonneg (pos n) a b h l = tt
is_nonneg (negsuc n) a b h l = absurd (none a b n h l)
  where
    none : (a b n : ℕ) → b ≡ a + suc n → b ≤ a → ⊥
    none a b n h l = omega arith

pub is_abs : (z : ℤ) (a b : ℕ) → Is z a b → b ≤ a → nat_abs z ≡ a - b
is_abs (pos n) a b h l = omega arith
is_abs (negsuc n) a b h l = absurd (none a b n h l)
  where
    none : (a b n : ℕ) → b ≡ a + suc n → b ≤ a → ⊥
    none a b n h l = omega arith

-- 2 ^ z is 2 ^ a / 2 ^ b
pub is_pow : (z : ℤ) (a b : ℕ) → Is z a b → up z * 2 ^ b ≡ 2 ^ a * down z
is_pow (pos n) a b h = mul_comm (2 ^ n) (2 ^ b) ∙ sym (pow-add 2 b n) ∙ ap (λ (x : ℕ). 2 ^ x) (sym h) ∙ sym (mul-one (2 ^ a))
is_pow (negsuc n) a b h = one-mul (2 ^ b) ∙ ap (λ (x : ℕ). 2 ^ x) h ∙ pow-add 2 a (suc n)

-- the machine's reading of a signed number's bits
abbrev pub read : ℤ → ℤ
read z = to_z w32 (of_z w32 z)

pub is_read : (z : ℤ) (a b : ℕ) → mag z < 2 ^ 31 → Is z a b → Is (read z) a b
is_read z a b h i = subst (λ (y : ℤ). Is y a b) (sym (to_z-of_z {w = w32} {z = z} (record { sfits = h }))) i

-- half of it, downwards
pub is-half : (z : ℤ) (a b : ℕ) → Is z a (2 * b) → Is (shr_z z 2) (a / 2) b
is-half (pos n) a b h = omega arith
is-half (negsuc n) a b h = omega arith

pub read_same : (z : ℤ) → mag z < 2 ^ 31 → read z ≡ z
read_same z h = to_z-of_z {w = w32} {z = z} (record { sfits = h })

-- the biased number of a - b
pub is_bias : (z : ℤ) (a b : ℕ) → Is z a b → b ≤ a + 8192 → biased z ≡ a + 8192 - b
is_bias (pos n) a b h l = omega arith
is_bias (negsuc n) a b h l = omega arith

pub range_of : (z : ℤ) (h : ℕ) → mag z < h → h ≤ 8192 → (8192 ≤ biased z + h) × (biased z < 8192 + h)
range_of (pos n) h m l = (omega arith, omega arith)
range_of (negsuc n) h m l = (omega arith, omega arith)

pub mag_of : (z : ℤ) (h : ℕ) → h ≤ 8192 → 8192 < biased z + h → biased z < 8192 + h → mag z < h
mag_of (pos n) h l a b = omega arith
mag_of (negsuc n) h l a b = omega arith

-- a number handed on: its reading, and that in natural numbers
pub is_handed : (z : ℤ) → mag z < 8192 → Is (read z) (biased z) 8192
is_handed z h = is_read z (biased z) 8192 (omega arith) (is_biased z h)

pub same : (z : ℤ) (h : ℕ) → mag z < h → h ≤ 8192 → read z ≡ z
same z h m l = read_same z (omega arith)

pub handed : (z : ℤ) (h : ℕ) → mag z < h → h ≤ 8192 → mag (read z) < h
handed z h m l = subst (λ (y : ℤ). mag y < h) (sym (same z h m l)) m
