-- The laws of specs/Laws.antt: Root's result is the nearest, MulAdd rounds a * b + c, IfElse chooses bit by bit. (That there is one nearest root:
-- OneRoot.antt.) Assumes nothing.
use mathlib.Core.Path.{◌≡◌, refl, sym, ap, ap₂, ◌∙◌, subst}
use mathlib.Core.Bool.{Bool, true, false, cond, ◌&&◌}
use Prim.Native.Nat.{ℕ, zero, suc, ◌+◌, ◌-◌, ◌*◌, ◌/◌, ◌%◌, ◌^◌, ◌≤◌, ◌<◌, min, max, compare, Ordering}
use native.Mathlib.Nat.{lt_irrefl, lt_of_mul-lt-mul_right, mod-lt, lt_of_lt_of_le, mul-le-mul, div-add-mod', div-eq_of_lt-le, mul-zero, zero-mul, mul_assoc}
use native.Mathlib.Omega.{arith}
use borrow.Author.Tests.{lt-ltb, le-ltb}
use lib.Dec.{leb, eqb, lit<}
use lib.Arith.{lt→nleb}
use lib.Bits.{bit_and, bit_or, and_step, or_step, and_shr, or_shr}
use lib.IntN.{ℤ, pos, negsuc, neg_ℤ, sub_ℕ, ◌+ℤ◌, ◌*ℤ◌, neg_ℤ-+ℤ, +ℤ_comm}
use lib.Signed.{mag}
use lib.Pow.{pow-add, pow_pos, pow_mono, shl_lt}
use lib.Ieee.{Float, binary64, up, down, nearest, unlike, round, sum}
use lib.Ieee.Bits.{is_false}
use lib.Ieee.Exact.{HasValue, units_val}
use lib.Ieee.Fits.{down_pos}
use Rattle.float.specs.Laws.{IsWholeRoot, NearestRoot, RootLaw, signed, round_signed, MulAddLaw, bit, IfElseLaw}
use Rattle.float.specs.Biased.{biased}
use Rattle.float.specs.Root.{whole_root, square_root}
use Rattle.float.specs.Fused.{fused_multiply_add}
use Rattle.float.specs.Word.{value, if_else}
use Rattle.float.proofs.Closest.{Cmp, cmp}
use Rattle.float.proofs.Fields.{rescale, unpacked}
use Rattle.float.proofs.SquareRoot as SquareRoot
use Rattle.float.proofs.FusedSum.{fused_at}
use Rattle.float.proofs.Sums.{sum_like, sum_less, sum_more, sum-none}

-- ---- Root
pub whole-root : (n : ℕ) → IsWholeRoot n (whole_root n)
whole-root n = SquareRoot.whole-root n

-- the radicand n = q * q + r, scaled to 105 or 106 digits
module _ (x : Float) (m : ℕ) (e : ℤ) (small : mag e < 1200) (lo : 2 ^ 52 ≤ m) (hi : m < 2 ^ 53) (v : HasValue x false (m * up e) (down e)) where
  abbrev M : ℕ
  M = m * 2 ^ (biased e % 2)

  abbrev q : ℕ
  q = whole_root (M * 2 ^ 52)

  abbrev r : ℕ
  r = M * 2 ^ 52 - q * q

  abbrev k : ℕ
  k = biased e / 2 - 3048

  is : q * q + r ≡ M * 2 ^ 52
  is = let w = whole-root (M * 2 ^ 52) in omega (arith, w.0)

  rest : r ≤ 2 * q
  rest = let w = whole-root (M * 2 ^ 52) in omega (arith, w.1)

  q-lo : 2 ^ 52 ≤ q
  q-lo = SquareRoot.q-lo m e M q r small lo hi refl is rest

  q-hi : q < 2 ^ 53
  q-hi = SquareRoot.q-hi m e M q r small lo hi refl is rest

  n-lo : 2 ^ 52 * 2 ^ 52 ≤ q * q
  n-lo = mul-le-mul q-lo q-lo

  n-hi : suc q * suc q ≤ 2 ^ 53 * 2 ^ 53
  n-hi = mul-le-mul q-hi q-hi

  in-range : (s : ℕ) → s ≤ 2 ^ 53 → s * 2 ^ k < 2 ^ 2098
  in-range s h =
      let l = SquareRoot.k-hi m e M q r small lo hi refl is rest in
      lt_of_lt_of_le (shl_lt 54 k (omega arith)) (pow_mono {i = 54 + k} {j = 2098} (omega (arith, l)))

  by : (o : Ordering) → Cmp o (4 * (q * q + r)) ((2 * q + 1) * (2 * q + 1)) → (2 ^ 52 ≤ nearest q o) × (nearest q o ≤ 2 ^ 53)
      → ((2 * nearest q o - 1) * (2 * nearest q o - 1) < 4 * (q * q + r)) × (4 * (q * q + r) < (2 * nearest q o + 1) * (2 * nearest q o + 1)) → NearestRoot x (square_root binary64 x)
  by o h digits near = record {
    n = q * q + r;
    r = nearest q o;
    k = k;
    operand =
        rescale x false (m * up e) (down e) ((q * q + r) * 4 ^ k) (2 ^ 2148) (down_pos e) (sym (SquareRoot.scaled m e M q r small lo hi refl is rest)) v;
    scaled = (omega (arith, n-lo), omega (arith, n-hi, rest));
    result =
        subst (λ (y : Float). HasValue y false (nearest q o * 2 ^ k) (2 ^ 1074)) (sym (SquareRoot.root-units m e M q r small lo hi refl is rest x v o h))
        (units_val binary64 false (nearest q o) k (in-range (nearest q o) digits.1));
    digits = digits;
    nearest = near;
  }

  pub nearest-root : NearestRoot x (square_root binary64 x)
  nearest-root = go (compare r (suc q)) (cmp r (suc q))
    where
      below : (q r : ℕ) → 0 < q → (2 * q - 1) * (2 * q - 1) < 4 * (q * q + r)
      below q r h = below_suc (q - 1) q r (omega arith)
        where
          below_suc : (j q r : ℕ) → q ≡ j + 1 → (2 * q - 1) * (2 * q - 1) < 4 * (q * q + r)
          below_suc j q r e = subst (λ (x : ℕ). (2 * x - 1) * (2 * x - 1) < 4 * (x * x + r)) (sym e) (subst (λ (x : ℕ). x * x < 4 * ((j + 1) * (j + 1) + r)) {x = 2 * j + 1} {y = 2 * (j + 1) - 1} (omega arith) (omega arith))

      at_most : r ≤ q → NearestRoot x (square_root binary64 x)
      at_most h = by Ordering.lt (omega arith) (q-lo, omega (arith, q-hi)) (below q r (omega (arith, q-lo)), omega arith)

      above : q < r → NearestRoot x (square_root binary64 x)
      above h = by Ordering.gt (omega arith) (omega (arith, q-lo), omega (arith, q-hi)) (next q r h, omega (arith, rest))
        where
          next : (q r : ℕ) → q < r → (2 * suc q - 1) * (2 * suc q - 1) < 4 * (q * q + r)
          next q r h = subst (λ (x : ℕ). x * x < 4 * (q * q + r)) {x = 2 * q + 1} {y = 2 * suc q - 1} (omega arith) (omega arith)

      go : (o : Ordering) → Cmp o r (suc q) → NearestRoot x (square_root binary64 x)
      go Ordering.lt h = at_most (omega arith)
      go Ordering.eq h = above (omega arith)
      go Ordering.gt h = above (omega arith)

pub root_nearest : RootLaw (square_root binary64)
root_nearest a p h =
    let u = unpacked a (omega arith) (omega arith) in
    let t = u.2 in
    nearest-root (value a) u.0 u.1 t.small t.lo t.hi
    (subst (λ (s : Bool). HasValue (value a) s (u.0 * up u.1) (down u.1)) (is_false (leb (2 ^ 63) a) (lt→nleb (2 ^ 63) a (omega arith))) t.value)

-- ---- MulAdd
minus_nothing : (n : ℕ) → n ≡ 0 → neg_ℤ (pos n) ≡ pos n
minus_nothing n e = subst (λ (x : ℕ). neg_ℤ (pos x) ≡ pos x) (sym e) refl

signed_times : (s t : Bool) (a b : ℕ) → signed s a *ℤ signed t b ≡ signed (unlike s t) (a * b)
signed_times false false a b = refl
signed_times false true a zero = sym (minus_nothing (a * 0) (mul-zero a))
signed_times false true a (suc b) = refl
signed_times true false zero b = sym (minus_nothing (0 * b) (zero-mul b))
signed_times true false (suc a) b = refl
signed_times true true zero zero = refl
signed_times true true zero (suc b) = minus_nothing (0 * suc b) (zero-mul (suc b))
signed_times true true (suc a) zero = minus_nothing (suc a * 0) (mul-zero (suc a))
signed_times true true (suc a) (suc b) = refl

signed_scaled : (s : Bool) (a b : ℕ) → signed s a *ℤ pos b ≡ signed s (a * b)
signed_scaled true a b = signed_times true false a b
signed_scaled false a b = signed_times false false a b

-- a whole number that is not zero does not look at the zero's sign
round_plus : (s : Bool) (n d : ℕ) → 0 < n → round_signed s (pos n) d ≡ round binary64 false n d
round_plus s zero d h = absurd (lt_irrefl 0 h)
round_plus s (suc n) d h = refl

-- a - b, by which is larger
module _ (z : Bool) (a b d : ℕ) where
  difference-less : a < b → round_signed z (sub_ℕ a b) d ≡ round binary64 true (b - a) d
  difference-less h =
      ap (λ (x : Bool). round_signed z (cond x (negsuc (b - suc a)) (pos (a - b))) d) (lt-ltb a b h)
      ∙ ap (λ (n : ℕ). round binary64 true n d) {x = suc (b - suc a)} {y = b - a} (omega arith)

  difference-rest : b ≤ a → round_signed z (sub_ℕ a b) d ≡ round_signed z (pos (a - b)) d
  difference-rest h = ap (λ (x : Bool). round_signed z (cond x (negsuc (b - suc a)) (pos (a - b))) d) (le-ltb a b h)

  difference-more : b < a → round_signed z (sub_ℕ a b) d ≡ round binary64 false (a - b) d
  difference-more h = difference-rest (omega arith) ∙ round_plus z (a - b) d (omega arith)

  difference-none : a ≡ b → round_signed z (sub_ℕ a b) d ≡ round binary64 z 0 d
  difference-none h = difference-rest (omega arith) ∙ ap (λ (n : ℕ). round_signed z (pos n) d) {x = a - b} {y = 0} (omega arith)

plus_minus : (a b : ℕ) → pos a +ℤ neg_ℤ (pos b) ≡ sub_ℕ a b
plus_minus a zero = sym (ap (λ (x : Bool). cond x (negsuc (0 - suc a)) (pos (a - 0))) (le-ltb a 0 (omega arith)) ∙ ap pos {x = a - 0} {y = a + 0} (omega arith))
plus_minus a (suc b) = refl

minus_minus : (a b : ℕ) → neg_ℤ (pos a) +ℤ neg_ℤ (pos b) ≡ neg_ℤ (pos (a + b))
minus_minus a b = sym (neg_ℤ-+ℤ (pos a) (pos b))

round_minus : (n d : ℕ) → round_signed true (neg_ℤ (pos n)) d ≡ round binary64 true n d
round_minus zero d = refl
round_minus (suc n) d = refl

round_plus_any : (n d : ℕ) → round_signed false (pos n) d ≡ round binary64 false n d
round_plus_any zero d = refl
round_plus_any (suc n) d = refl

sum-signed : (s t : Bool) (a b d : ℕ) → sum binary64 s a t b d ≡ round_signed (s && t) (signed s a +ℤ signed t b) d
sum-signed false false a b d = sum_like false false a b d refl ∙ sym (round_plus_any (a + b) d)
sum-signed true true a b d = sum_like true true a b d refl ∙ sym (ap (λ (x : ℤ). round_signed true x d) (minus_minus a b) ∙ round_minus (a + b) d)
sum-signed false true a b d = go (compare a b) (cmp a b) ∙ sym (ap (λ (x : ℤ). round_signed false x d) (plus_minus a b))
  where
    go : (o : Ordering) → Cmp o a b → sum binary64 false a true b d ≡ round_signed false (sub_ℕ a b) d
    go Ordering.lt h = sum_less false true a b d refl h ∙ sym (difference-less false a b d h)
    go Ordering.eq h = sum-none false true a b d refl h ∙ sym (difference-none false a b d h)
    go Ordering.gt h = sum_more false true a b d refl h ∙ sym (difference-more false a b d h)
sum-signed true false a b d = go (compare a b) (cmp a b) ∙ sym (ap (λ (x : ℤ). round_signed false x d) (+ℤ_comm (neg_ℤ (pos a)) (pos b) ∙ plus_minus b a))
  where
    go : (o : Ordering) → Cmp o a b → sum binary64 true a false b d ≡ round_signed false (sub_ℕ b a) d
    go Ordering.lt h = sum_less true false a b d refl h ∙ sym (difference-more false b a d h)
    go Ordering.eq h = sum-none true false a b d refl h ∙ sym (difference-none false b a d (sym h))
    go Ordering.gt h = sum_more true false a b d refl h ∙ sym (difference-less false b a d h)

pub mul-add_exact : MulAddLaw (fused_multiply_add binary64)
mul-add_exact x y z r s t p q n c d g C D G X Y Z =
    fused_at x y z r s t p q n c d g C D G X Y Z
    ∙ sum-signed (unlike r s) t (p * q * g) (n * (c * d)) (c * d * g)
    ∙ ap₂ (λ (i j : ℤ). round_signed (unlike r s && t) (i +ℤ j) (c * d * g))
    (sym (ap (λ (i : ℤ). i *ℤ pos g) (signed_times r s p q) ∙ signed_scaled (unlike r s) (p * q) g)) (sym (signed_scaled t n (c * d)))

-- ---- IfElse
-- the lowest bit of a conjunction, a disjunction
and_low : (a b : ℕ) → bit_and a b % 2 ≡ min (a % 2) (b % 2)
and_low a b = omega (arith, and_step a b)

or_low : (a b : ℕ) → bit_or a b % 2 ≡ max (a % 2) (b % 2)
or_low a b = omega (arith, or_step a b)

not_bit : (i c : ℕ) → i < 64 → c < 2 ^ 64 → bit i (2 ^ 64 - 1 - c) ≡ 1 - bit i c
not_bit i c h l = go (c / 2 ^ i) (c % 2 ^ i) (2 ^ i) (2 ^ (63 - i)) (div-add-mod' c (2 ^ i)) (mod-lt c (pow_pos i)) whole
  where
    whole : 2 * 2 ^ (63 - i) * 2 ^ i ≡ 2 ^ 64
    whole = mul_assoc 2 (2 ^ (63 - i)) (2 ^ i) ∙ ap (λ (x : ℕ). 2 * x) (sym (pow-add 2 (63 - i) i) ∙ ap (λ (x : ℕ). 2 ^ x) {x = 63 - i + i} {y = 63} (omega arith))

    go : (q r u p : ℕ) → q * u + r ≡ c → r < u → 2 * p * u ≡ 2 ^ 64 → (2 ^ 64 - 1 - c) / u % 2 ≡ 1 - q % 2
    go q r u p e r-lt P =
        let q-lt : q < 2 * p = lt_of_mul-lt-mul_right u (omega arith) in
        let all : (2 * p - 1 - q) * u + q * u + u ≡ 2 ^ 64 = together (2 * p - 1 - q) q u ∙ ap (λ (x : ℕ). x * u) {x = 2 * p - 1 - q + q + 1} {y = 2 * p} (omega arith) ∙ P in
        ap (λ (x : ℕ). x % 2) (div-eq_of_lt-le {k = 2 * p - 1 - q} u (under (2 * p - 1 - q) all) (over (2 * p - 1 - q) all)) ∙ omega (arith, q-lt)
      where
        together : (w q u : ℕ) → w * u + q * u + u ≡ (w + q + 1) * u
        together w q u = omega arith

        under : (w : ℕ) → w * u + q * u + u ≡ 2 ^ 64 → w * u ≤ 2 ^ 64 - 1 - c
        under w h = omega arith

        over : (w : ℕ) → w * u + q * u + u ≡ 2 ^ 64 → 2 ^ 64 - 1 - c < (w + 1) * u
        over w h = omega arith

pub if_else_bit : IfElseLaw if_else
if_else_bit i c t f i_lt c_lt =
    ap (λ (x : ℕ). x % 2) (or_shr (bit_and c t) (bit_and (2 ^ 64 - 1 - c) f) i)
    ∙ or_low (bit_and c t / 2 ^ i) (bit_and (2 ^ 64 - 1 - c) f / 2 ^ i)
    ∙ ap₂ max (ap (λ (x : ℕ). x % 2) (and_shr c t i) ∙ and_low (c / 2 ^ i) (t / 2 ^ i))
    (ap (λ (x : ℕ). x % 2) (and_shr (2 ^ 64 - 1 - c) f i) ∙ and_low ((2 ^ 64 - 1 - c) / 2 ^ i) (f / 2 ^ i) ∙ ap (λ (x : ℕ). min x (bit i f)) (not_bit i c i_lt c_lt))
    ∙ go (bit i c) (bit i t) (bit i f) (mod-lt (c / 2 ^ i) {m = 2} (lit< tt)) (mod-lt (t / 2 ^ i) {m = 2} (lit< tt)) (mod-lt (f / 2 ^ i) {m = 2} (lit< tt))
  where
    go : (x y z : ℕ) → x < 2 → y < 2 → z < 2 → max (min x y) (min (1 - x) z) ≡ cond (eqb x 1) y z
    go zero y z h k l = omega arith
    go (suc zero) y z h k l = omega arith
    go (suc (suc x)) y z h k l = absurd (none x h)
      where
        none : (x : ℕ) → suc (suc x) < 2 → ⊥
        none x h = omega arith
