-- `fused_multiply_add` of words: where a product is infinite, a NaN or zero it is exact, and `add` rounds the sum. Assumes nothing.
use mathlib.Core.Path.{◌≡◌, refl, sym, ap, ap₂, ◌∙◌, subst}
use mathlib.Core.Logic.{◌⊎◌, inl, inr}
use mathlib.Core.Bool.{Bool, true, false, not, cond, beq}
use Prim.Native.Nat.{ℕ, ◌+◌, ◌-◌, ◌*◌, ◌/◌, ◌%◌, ◌^◌, ◌≤◌, ◌<◌}
use native.Mathlib.Nat.{mul_comm, eq-zero-or-pos, eq-or-lt_of_le, mul-pos, zero-mul, mul_assoc}
use native.Mathlib.Omega.{arith}
use lib.Dec.{T, leb, eqb}
use lib.IntN.{ℤ, pos}
use lib.Pow.{pow_pos, pow-add}
use lib.Bits.{bit_xor, xor_self, xor_zero_l, xor_zero_r}
use lib.Signed.{mag}
use lib.Ieee.{Float, nan, inf, fin, binary64, up, down, unlike, add, mul, sum, round, is_nan, of_bits}
use lib.Ieee.Fits.{down_pos}
use lib.Ieee.Exact.{HasValue}
use Rattle.float.specs.Unpacked.{Unpacked}
use Rattle.float.specs.Biased.{biased}
use Rattle.float.specs.Fused.{none, infinite, product, plus_product, fused_multiply_add}
use Rattle.float.proofs.Nan.{above_nan}
use Rattle.float.proofs.Marks.{sum_number}
use Rattle.float.proofs.Fields.{word_zero, word_infinite, word_finite, rescale}
use Rattle.float.proofs.Signed.{is_biased, is_pow}
use Rattle.float.proofs.Sums.{sum_like, sum_more}
use Rattle.float.proofs.FusedSum.{sum_same, crossed, fused_at}

-- neither finite nor less
abbrev pub Huge : Float → Type 0
Huge nan = Unit
Huge (inf s) = Unit
Huge (fin s m e) = ⊥

pub huge_word : (a : ℕ) → 2047 * 2 ^ 52 ≤ a % 2 ^ 63 → Huge (of_bits binary64 a)
huge_word a h = elim (eq-or-lt_of_le h) [
  | inl e ↦ subst Huge (sym (word_infinite a (sym e))) tt
  | inr l ↦ subst Huge (sym (above_nan a l)) tt
]

infinite_plus : (s : Bool) (z : Float) → plus_product binary64 (infinite s) z ≡ add binary64 (inf s) z
unfolding plus_product add
infinite_plus s nan = refl
infinite_plus s (inf t) = refl
infinite_plus s (fin t n d) = refl

infinite_or_nan : (b s : Bool) (z : Float) → plus_product binary64 (cond b none (infinite s)) z ≡ add binary64 (cond b nan (inf s)) z
infinite_or_nan true s z = unfold plus_product add in refl
infinite_or_nan false s z = infinite_plus s z

pub exact_product : (x y z : Float) → Huge x ⊎ Huge y → fused_multiply_add binary64 x y z ≡ add binary64 (mul binary64 x y) z
unfolding fused_multiply_add product plus_product mul add
exact_product nan y z h = refl
exact_product (inf s) nan z h = refl
exact_product (inf s) (inf t) z h = infinite_plus (unlike s t) z
exact_product (inf s) (fin t n d) z h = infinite_or_nan (eqb n 0) (unlike s t) z
exact_product (fin s m e) nan z h = refl
exact_product (fin s m e) (inf t) z h = infinite_or_nan (eqb m 0) (unlike s t) z
exact_product (fin s m e) (fin t n d) z (inl h) = absurd h
exact_product (fin s m e) (fin t n d) z (inr h) = absurd h

-- ---- a finite word has a value
pub finite_word : (a : ℕ) → a % 2 ^ 63 < 2047 * 2 ^ 52 → (n : ℕ) × HasValue (of_bits binary64 a) (leb (2 ^ 63) a) n (2 ^ 1074)
finite_word a h = elim (eq-zero-or-pos (a % 2 ^ 63)) [
  | inl e ↦ (0, subst (λ (x : Float). HasValue x (leb (2 ^ 63) a) 0 (2 ^ 1074)) (sym (word_zero a e)) (refl, refl))
  | inr p ↦ let v = word_finite a p h in (v.0, v.2)
]

-- of finite words the sum is a number
pub fused-number : (a b c : ℕ) → a % 2 ^ 63 < 2047 * 2 ^ 52 → b % 2 ^ 63 < 2047 * 2 ^ 52 → c % 2 ^ 63 < 2047 * 2 ^ 52 → is_nan (fused_multiply_add binary64 (of_bits binary64 a) (of_bits binary64 b) (of_bits binary64 c)) ≡ false
fused-number a b c fa fb fc =
    let u = finite_word a fa in
    let v = finite_word b fb in
    let w = finite_word c fc in
    let L = 2 ^ 1074 in
    ap is_nan (fused_at (of_bits binary64 a) (of_bits binary64 b) (of_bits binary64 c) (leb (2 ^ 63) a) (leb (2 ^ 63) b) (leb (2 ^ 63) c) u.0 v.0 w.0 L L L (pow_pos 1074) (pow_pos 1074) (pow_pos 1074) u.1 v.1 w.1)
    ∙ sum_number (unlike (leb (2 ^ 63) a) (leb (2 ^ 63) b)) (u.0 * v.0 * L) (leb (2 ^ 63) c) (w.0 * (L * L)) (L * L * L)

-- a huge addend
pub huge_addend : (x y z : Float) (r s : Bool) (p q c d : ℕ) → HasValue x r p c → HasValue y s q d → Huge z → z ≡ fused_multiply_add binary64 x y z
unfolding fused_multiply_add product plus_product
huge_addend nan y z r s p q c d X Y Z = absurd X
huge_addend (inf u) y z r s p q c d X Y Z = absurd X
huge_addend (fin u m e) nan z r s p q c d X Y Z = absurd Y
huge_addend (fin u m e) (inf v) z r s p q c d X Y Z = absurd Y
huge_addend (fin u m e) (fin v k f) nan r s p q c d X Y Z = refl
huge_addend (fin u m e) (fin v k f) (inf w) r s p q c d X Y Z = refl
huge_addend (fin u m e) (fin v k f) (fin w n g) r s p q c d X Y Z = absurd Z

-- ---- a product that is zero
add_at : (x y : Float) (s t : Bool) (p q c d : ℕ) → 0 < c → 0 < d → HasValue x s p c → HasValue y t q d → add binary64 x y ≡ sum binary64 s (p * d) t (q * c) (c * d)
add_at nan y s t p q c d C D X Y = absurd X
add_at (inf u) y s t p q c d C D X Y = absurd X
add_at (fin u m e) nan s t p q c d C D X Y = absurd Y
add_at (fin u m e) (inf v) s t p q c d C D X Y = absurd Y
add_at (fin u m e) (fin v k f) s t p q c d C D X Y =
    is u v
    ∙ ap₂ (λ (a b : Bool). sum binary64 a (m * up e * down f) b (k * up f * down e) (down e * down f)) X.0 Y.0
    ∙ sum_same s t (m * up e * down f) (k * up f * down e) (down e * down f) (p * d) (q * c) (c * d) (mul-pos (down_pos e) (down_pos f)) (mul-pos C D)
    (ap (λ (i : ℕ). m * up e * down f * i) (mul_comm c d) ∙ crossed (m * up e) (down f) (down e) d c p X.1 ∙ ap (λ (i : ℕ). p * d * i) (mul_comm (down f) (down e))) (crossed (k * up f) (down e) (down f) c d q Y.1)
  where
    is : (u v : Bool) → add binary64 (fin u m e) (fin v k f) ≡ sum binary64 u (m * up e * down f) v (k * up f * down e) (down e * down f)
    is u v = unfold add in refl

pub zero-product : (x y z : Float) (r s t : Bool) (p q n c d g : ℕ) → 0 < c → 0 < d → 0 < g → HasValue x r p c → HasValue y s q d → HasValue z t n g → p * q ≡ 0
    → fused_multiply_add binary64 x y z ≡ add binary64 (fin (unlike r s) 0 (pos 0)) z
zero-product x y z r s t p q n c d g C D G X Y Z e =
    fused_at x y z r s t p q n c d g C D G X Y Z
    ∙ sum_same (unlike r s) t (p * q * g) (n * (c * d)) (c * d * g) (0 * g) (n * 1) (1 * g) (mul-pos (mul-pos C D) G) (mul-pos (omega arith) G)
    (ap (λ (i : ℕ). i * g * (1 * g)) e ∙ nothing) something
    ∙ sym (add_at (fin (unlike r s) 0 (pos 0)) z (unlike r s) t 0 n 1 g (omega arith) G (refl, refl) Z)
  where
    nothing : 0 * g * (1 * g) ≡ 0 * g * (c * d * g)
    nothing = omega arith

    something : n * (c * d) * (1 * g) ≡ n * 1 * (c * d * g)
    something = omega arith

-- ---- the sign of a product, as a word
pub sign_word : (a : ℕ) → a < 2 ^ 64 → a / 2 ^ 63 * 2 ^ 63 ≡ cond (leb (2 ^ 63) a) (2 ^ 63) 0
sign_word a h = go (leb (2 ^ 63) a) (lib.Dec.leb→le (2 ^ 63) a) (lib.Dec.nleb→lt (2 ^ 63) a)
  where
    go : (b : Bool) → (T b → 2 ^ 63 ≤ a) → (T (not b) → a < 2 ^ 63) → a / 2 ^ 63 * 2 ^ 63 ≡ cond b (2 ^ 63) 0
    go true y n = let g : 2 ^ 63 ≤ a = y tt in omega arith
    go false y n = let g : a < 2 ^ 63 = n tt in omega arith

sign_xor : (s t : Bool) → bit_xor (cond s (2 ^ 63) 0) (cond t (2 ^ 63) 0) ≡ cond (unlike s t) (2 ^ 63) 0
sign_xor true true = xor_self (2 ^ 63)
sign_xor true false = xor_zero_r (2 ^ 63)
sign_xor false true = xor_zero_l (2 ^ 63)
sign_xor false false = xor_self 0

signed-zero : (s : Bool) → of_bits binary64 (cond s (2 ^ 63) 0) ≡ fin s 0 (pos 0)
unfolding of_bits
signed-zero true = refl
signed-zero false = refl

-- ±0 and c added, where the product of a and b is zero
pub zero_words : (a b c r : ℕ) → a < 2 ^ 64 → b < 2 ^ 64 → a % 2 ^ 63 < 2047 * 2 ^ 52 → b % 2 ^ 63 < 2047 * 2 ^ 52 → c % 2 ^ 63 < 2047 * 2 ^ 52 → (a % 2 ^ 63 ≡ 0) ⊎ (b % 2 ^ 63 ≡ 0)
    → r ≡ bit_xor (a / 2 ^ 63 * 2 ^ 63) (b / 2 ^ 63 * 2 ^ 63)
    → add binary64 (of_bits binary64 r) (of_bits binary64 c) ≡ fused_multiply_add binary64 (of_bits binary64 a) (of_bits binary64 b) (of_bits binary64 c)
zero_words a b c r A B fa fb fc z e =
    ap (λ (v : Float). add binary64 v (of_bits binary64 c))
    (ap (of_bits binary64) (e ∙ ap₂ bit_xor (sign_word a A) (sign_word b B) ∙ sign_xor (leb (2 ^ 63) a) (leb (2 ^ 63) b)) ∙ signed-zero (unlike (leb (2 ^ 63) a) (leb (2 ^ 63) b)))
    ∙ sym (go z)
  where
    at : (w : ℕ) → w % 2 ^ 63 ≡ 0 → HasValue (of_bits binary64 w) (leb (2 ^ 63) w) 0 (2 ^ 1074)
    at w h = subst (λ (x : Float). HasValue x (leb (2 ^ 63) w) 0 (2 ^ 1074)) (sym (word_zero w h)) (refl, refl)

    go : (a % 2 ^ 63 ≡ 0) ⊎ (b % 2 ^ 63 ≡ 0) → fused_multiply_add binary64 (of_bits binary64 a) (of_bits binary64 b) (of_bits binary64 c) ≡ add binary64 (fin (unlike (leb (2 ^ 63) a) (leb (2 ^ 63) b)) 0 (pos 0)) (of_bits binary64 c)
    go (inl h) =
        let v = finite_word b fb in
        let w = finite_word c fc in
        zero-product (of_bits binary64 a) (of_bits binary64 b) (of_bits binary64 c) (leb (2 ^ 63) a) (leb (2 ^ 63) b) (leb (2 ^ 63) c) 0 v.0 w.0 (2 ^ 1074) (2 ^ 1074) (2 ^ 1074)
        (pow_pos 1074) (pow_pos 1074) (pow_pos 1074) (at a h) v.1 w.1 (zero-mul v.0)
    go (inr h) =
        let v = finite_word a fa in
        let w = finite_word c fc in
        zero-product (of_bits binary64 a) (of_bits binary64 b) (of_bits binary64 c) (leb (2 ^ 63) a) (leb (2 ^ 63) b) (leb (2 ^ 63) c) v.0 0 w.0 (2 ^ 1074) (2 ^ 1074) (2 ^ 1074)
        (pow_pos 1074) (pow_pos 1074) (pow_pos 1074) v.1 (at b h) w.1 (native.Mathlib.Nat.mul-zero v.0)

one_pos : 0 < 1
one_pos = omega arith

-- ---- words taken apart
unpacked_value : (a : ℕ) (s : Bool) (m : ℕ) (e : ℤ) → Unpacked a s m e → HasValue (of_bits binary64 a) s (m * 2 ^ biased e) (2 ^ 8192)
unpacked_value a s m e t =
    rescale (of_bits binary64 a) s (m * up e) (down e) (m * 2 ^ biased e) (2 ^ 8192) (down_pos e)
    (mul_assoc m (2 ^ biased e) (down e) ∙ ap (λ (x : ℕ). m * x) (sym (is_pow e (biased e) 8192 (is_biased e small))) ∙ sym (mul_assoc m (up e) (2 ^ 8192))) t.value
  where
    small : mag e < 8192
    small = let h = t.small in omega (arith, h)

-- with C for 2 ^ 8192
three : (m n k A B G C : ℕ) → m * A * (n * B) * C * (C * C) ≡ m * n * (A * B) * (C * C * C)
three m n k A B G C = omega arith

third : (k G C : ℕ) → k * G * (C * C) * (C * C) ≡ k * (G * C) * (C * C * C)
third k G C = omega arith

pub unpacked_sum : (a b c : ℕ) (r s t : Bool) (m n k : ℕ) (e f g : ℤ) → Unpacked a r m e → Unpacked b s n f → Unpacked c t k g
    → fused_multiply_add binary64 (of_bits binary64 a) (of_bits binary64 b) (of_bits binary64 c) ≡ sum binary64 (unlike r s) (m * n * 2 ^ (biased e + biased f)) t (k * 2 ^ (biased g + 8192)) (2 ^ 16384)
unpacked_sum a b c r s t m n k e f g X Y Z =
    let L = 2 ^ 8192 in
    fused_at (of_bits binary64 a) (of_bits binary64 b) (of_bits binary64 c) r s t (m * 2 ^ biased e) (n * 2 ^ biased f) (k * 2 ^ biased g) L L L (pow_pos 8192) (pow_pos 8192) (pow_pos 8192)
    (unpacked_value a r m e X) (unpacked_value b s n f Y) (unpacked_value c t k g Z)
    ∙ sum_same (unlike r s) t (m * 2 ^ biased e * (n * 2 ^ biased f) * L) (k * 2 ^ biased g * (L * L)) (L * L * L) (m * n * 2 ^ (biased e + biased f)) (k * 2 ^ (biased g + 8192)) (2 ^ 16384)
    (mul-pos (mul-pos (pow_pos 8192) (pow_pos 8192)) (pow_pos 8192)) (pow_pos 16384)
    (three m n k (2 ^ biased e) (2 ^ biased f) 0 L ∙ ap (λ (x : ℕ). m * n * x * (L * L * L)) (sym (pow-add 2 (biased e) (biased f))))
    (third k (2 ^ biased g) L ∙ ap (λ (x : ℕ). k * x * (L * L * L)) (sym (pow-add 2 (biased g) 8192)))

-- a sum with a zero
sum_right_zero : (s t : Bool) (a b c : ℕ) → 0 < a → b ≡ 0 → sum binary64 s a t b c ≡ round binary64 s a c
sum_right_zero s t a b c h e = go (beq s t) refl
  where
    go : (x : Bool) → beq s t ≡ x → sum binary64 s a t b c ≡ round binary64 s a c
    go true q = sum_like s t a b c q ∙ ap (λ (x : ℕ). round binary64 s x c) {x = a + b} {y = a} (omega arith)
    go false q = sum_more s t a b c q (omega arith) ∙ ap (λ (x : ℕ). round binary64 s x c) {x = a - b} {y = a} (omega arith)

pub unpacked_product : (a b c : ℕ) (r s : Bool) (m n : ℕ) (e f : ℤ) → Unpacked a r m e → Unpacked b s n f → c % 2 ^ 63 ≡ 0
    → fused_multiply_add binary64 (of_bits binary64 a) (of_bits binary64 b) (of_bits binary64 c) ≡ round binary64 (unlike r s) (m * n * 2 ^ (biased e + biased f)) (2 ^ 16384)
unpacked_product a b c r s m n e f X Y z =
    let L = 2 ^ 8192 in
    fused_at (of_bits binary64 a) (of_bits binary64 b) (of_bits binary64 c) r s (leb (2 ^ 63) c) (m * 2 ^ biased e) (n * 2 ^ biased f) 0 L L 1 (pow_pos 8192) (pow_pos 8192) (omega arith)
    (unpacked_value a r m e X) (unpacked_value b s n f Y) (subst (λ (x : Float). HasValue x (leb (2 ^ 63) c) 0 1) (sym (word_zero c z)) (refl, refl))
    ∙ sum_right_zero (unlike r s) (leb (2 ^ 63) c) (m * 2 ^ biased e * (n * 2 ^ biased f) * 1) (0 * (L * L)) (L * L * 1)
    (mul-pos (mul-pos (mul-pos (positive m X.lo) (pow_pos (biased e))) (mul-pos (positive n Y.lo) (pow_pos (biased f)))) one_pos) (zero-mul (L * L))
    ∙ ap (λ (x : ℕ). round binary64 (unlike r s) x (2 ^ 16384)) (one (2 ^ biased e) (2 ^ biased f) ∙ ap (λ (x : ℕ). m * n * x) (sym (pow-add 2 (biased e) (biased f))))
  where
    positive : (m : ℕ) → 2 ^ 52 ≤ m → 0 < m
    positive m h = omega arith

    one : (A B : ℕ) → m * A * (n * B) * 1 ≡ m * n * (A * B)
    one A B = omega arith
