-- No value has two nearest roots: the digits of the scaled number fix the unit, and the unit fixes the root. Assumes nothing.
use mathlib.Core.Path.{◌≡◌, sym, ap, ◌∙◌, subst}
use mathlib.Core.Bool.{Bool, false}
use Prim.Native.Nat.{ℕ, suc, ◌+◌, ◌-◌, ◌*◌, ◌/◌, ◌^◌, ◌≤◌, ◌<◌, compare, Ordering}
use native.Mathlib.Nat.{lt_irrefl, lt_of_lt_of_le, lt_of_not-le, le_trans, le_of_suc-le-suc, le_antisymm, mul-le-mul, mul-lt-mul_of_pos_right, mul-div_cancel, eq_of_mul-eq-mul_right, one-le-pow, pow-le-pow_right, pow-succ'}
use native.Mathlib.Omega.{arith}
use lib.Ieee.{Float, nan, inf, fin, binary64, down, size, to_bits}
use lib.Ieee.Exact.{HasValue}
use lib.Ieee.Fits.{down_pos}
use Rattle.float.specs.Laws.{OneRoot}
use Rattle.float.proofs.Closest.{Cmp, cmp}

-- a value has one size
one_size : (x : Float) (p q c : ℕ) → HasValue x false p c → HasValue x false q c → p ≡ q
one_size nan p q c v w = absurd v
one_size (inf s) p q c v w = absurd v
one_size (fin s m e) p q c v w = eq_of_mul-eq-mul_right (down e) (down_pos e) p q (sym v.1 ∙ w.1)

-- and a size one word: that of w units of 2 ^ -1074
abbrev word_of : ℕ → ℕ
word_of w = let k = size w - 53 in 0 + k * 2 ^ 52 + w / 2 ^ k

one_word : (y : Float) (w : ℕ) → HasValue y false w (2 ^ 1074) → to_bits binary64 y ≡ word_of w
unfolding to_bits
one_word nan w v = absurd v
one_word (inf s) w v = absurd v
one_word (fin s m e) w v =
    ap (λ (t : Bool). to_bits binary64 (fin t m e)) v.0
    ∙ ap word_of (ap (λ (n : ℕ). n / down e) v.1 ∙ mul-div_cancel w (down_pos e))

-- a number from 2 ^ 104 on has no fewer than a number below 2 ^ 106, of units four times as large
larger-unit : (n m p q : ℕ) → n < 2 ^ 106 → 2 ^ 104 ≤ m → 0 < p → 4 * p ≤ q → n * p ≡ m * q → ⊥
larger-unit n m p q hi lo P h e =
    let near : n * p < 2 ^ 106 * p = mul-lt-mul_of_pos_right hi P in
    let far : 2 ^ 104 * (4 * p) ≤ m * q = mul-le-mul lo h in
    omega (arith, near, far, e)

-- so that the unit is one
one_unit : (n m k l : ℕ) → (2 ^ 104 ≤ n) × (n < 2 ^ 106) → (2 ^ 104 ≤ m) × (m < 2 ^ 106) → n * 4 ^ k ≡ m * 4 ^ l → k ≡ l
one_unit n m k l N M e = go (compare k l) (cmp k l)
  where
    four-pos : (k : ℕ) → 0 < 4 ^ k
    four-pos k = one-le-pow k 4 (omega arith)

    next : (k l : ℕ) → k < l → 4 * 4 ^ k ≤ 4 ^ l
    next k l h = subst (λ (x : ℕ). x ≤ 4 ^ l) (pow-succ' 4 k) (pow-le-pow_right (omega arith) h)

    go : (o : Ordering) → Cmp o k l → k ≡ l
    go Ordering.lt h = absurd (larger-unit n m (4 ^ k) (4 ^ l) N.1 M.0 (four-pos k) (next k l h) e)
    go Ordering.eq h = h
    go Ordering.gt h = absurd (larger-unit m n (4 ^ l) (4 ^ k) M.1 N.0 (four-pos l) (next l k h) (sym e))

-- and of one number there is one nearest root
no_larger : (n r s : ℕ) → (2 * r - 1) * (2 * r - 1) < 4 * n → 4 * n < (2 * s + 1) * (2 * s + 1) → r ≤ s
no_larger n r s R S =
    le_of_suc-le-suc (lt_of_not-le (λ (h : suc s ≤ r).
    let square : (2 * s + 1) * (2 * s + 1) ≤ (2 * r - 1) * (2 * r - 1) = mul-le-mul (omega (arith, h)) (omega (arith, h)) in
    lt_irrefl (4 * n) (lt_of_lt_of_le S (le_trans square (omega (arith, R))))))

pub one-root : OneRoot
one-root x y z a b =
    let same = one_size x (a.n * 4 ^ a.k) (b.n * 4 ^ b.k) (2 ^ 2148) a.operand b.operand in
    let k = one_unit a.n b.n a.k b.k a.scaled b.scaled same in
    let n : a.n ≡ b.n =
    eq_of_mul-eq-mul_right (4 ^ b.k) (one-le-pow b.k 4 (omega arith)) a.n b.n (ap (λ (j : ℕ). a.n * 4 ^ j) (sym k) ∙ same) in
    let r : a.r ≡ b.r =
    le_antisymm (no_larger b.n a.r b.r (subst (λ (m : ℕ). (2 * a.r - 1) * (2 * a.r - 1) < 4 * m) n a.nearest.0) b.nearest.1)
    (no_larger a.n b.r a.r (subst (λ (m : ℕ). (2 * b.r - 1) * (2 * b.r - 1) < 4 * m) (sym n) b.nearest.0) a.nearest.1) in
    one_word y (a.r * 2 ^ a.k) a.result
    ∙ ap (λ (s : ℕ). word_of (s * 2 ^ a.k)) r
    ∙ ap (λ (j : ℕ). word_of (b.r * 2 ^ j)) k
    ∙ sym (one_word z (b.r * 2 ^ b.k) b.result)
