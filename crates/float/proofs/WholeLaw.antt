-- Every direction's law (`IntegralLaw`): the whole number of the definition is the one that the fraction goes to, and the format holds it. Assumes nothing.
use mathlib.Core.Path.{◌≡◌, refl, sym, ap, ◌∙◌, subst}
use mathlib.Core.Logic.{◌⊎◌, inl, inr}
use mathlib.Core.Bool.{Bool, true, false, cond}
use Prim.Native.Nat.{ℕ, zero, suc, ◌+◌, ◌-◌, ◌*◌, ◌/◌, ◌%◌, ◌^◌, ◌≤◌, ◌<◌, compare, Ordering}
use native.Mathlib.Nat.{mul-one, one-mul, mul_assoc, mul_right_comm, eq_of_mul-eq-mul_right, div-add-mod', mod-lt, div-le_self, eq-or-lt_of_le, lt_of_lt_of_le, eq-zero-or-pos}
use native.Mathlib.Omega.{arith}
use borrow.Author.Tests.{eqb-true, eqb-false, ltb-true, ltb-false}
use lib.Dec.{leb, ltb, eqb, lit<}
use lib.IntN.{ℤ}
use lib.Pow.{pow_mono, pow_pos, shl_lt}
use lib.Ieee.{Float, nan, inf, fin, binary64, up, down, nearest, round}
use lib.Ieee.Exact.{HasValue, round_exact}
use lib.Ieee.Fits.{down_pos}
use lib.Ieee.Nearest.{closest}
use Rattle.float.specs.Laws.{NotAbove, NotBelow, Nearest, GoesTo, IntegralLaw}
use Rattle.float.specs.Integral.{ceiling, whole, round_to_integral}
use Rattle.float.specs.Word.{value}
use Rattle.float.specs.Unpacked.{Unpacked}
use Rattle.float.specs.Biased.{biased}
use Rattle.float.specs.declared.integral.Direction.{Direction}
use Rattle.float.specs.declared.integral.Direction.TheVariants.{TiesToEven, TowardNegative, TowardPositive, TowardZero}
use Rattle.float.proofs.Nan.{above_nan}
use Rattle.float.proofs.Closest.{Cmp, cmp}
use Rattle.float.proofs.Signed.{Is, is_biased, is_shift, is_pow}
use Rattle.float.proofs.Fields.{rescale, unpacked, word_zero, word_infinite}
use Rattle.float.proofs.ToIntegral.{whole_same, whole_most, integral_at, no_rest, large_value}

-- ---- the definition's whole number is the one that the fraction goes to
module _ (p c : ℕ) (C : 0 < c) where
  cut : p / c * c + p % c ≡ p
  cut = div-add-mod' p c

  rest : p % c < c
  rest = mod-lt p C

  floor : NotAbove p c (p / c)
  floor = (omega (arith, cut), omega (arith, cut, rest))

  upper : NotBelow p c (ceiling p c)
  upper = go (eqb (p % c) 0) refl
    where
      go : (b : Bool) → eqb (p % c) 0 ≡ b → NotBelow p c (p / c + cond b 0 1)
      go true e = let z = eqb-true (p % c) 0 e in (omega (arith, cut, z), omega (arith, cut, C))
      go false e = let z = eqb-false (p % c) 0 e in (omega (arith, cut, rest), omega (arith, cut, some (p % c) z))
        where
          some : (n : ℕ) → (n ≡ 0 → ⊥) → 0 < n
          some n h = omega (arith, h)

  middle : Nearest p c (closest p c)
  middle = go (p / c) (p % c) cut rest (compare (p % c * 2) c) (cmp (p % c * 2) c)
    where
      even : (q b r : ℕ) → q % 2 ≡ b → b < 2 → q * c + r ≡ p → r * 2 ≡ c → Nearest p c (q + b)
      even q zero r e l is h = (omega arith, omega arith, λ t. omega arith)
      even q (suc zero) r e l is h = (omega arith, omega arith, λ t. omega arith)
      even q (suc (suc b)) r e l is h = absurd (omega arith)

      go : (q r : ℕ) → q * c + r ≡ p → r < c → (o : Ordering) → Cmp o (r * 2) c → Nearest p c (nearest q o)
      go q r is l Ordering.lt h =
          (omega arith, omega arith, λ (t : (2 * (q * c) ≡ 2 * p + c) ⊎ (2 * p ≡ 2 * (q * c) + c)). absurd (elim t [ inl e ↦ omega arith | inr e ↦ omega arith ]))
      go q r is l Ordering.eq h = even q (q % 2) r refl (mod-lt q (lit< tt)) is h
      go q r is l Ordering.gt h =
          (omega arith, omega arith, λ (t : (2 * (suc q * c) ≡ 2 * p + c) ⊎ (2 * p ≡ 2 * (suc q * c) + c)). absurd (elim t [ inl e ↦ omega arith | inr e ↦ omega arith ]))

  goes : (d : Direction) (s : Bool) → GoesTo d s p c (whole d s p c)
  goes TiesToEven s = middle
  goes TowardNegative false = floor
  goes TowardNegative true = upper
  goes TowardPositive false = upper
  goes TowardPositive true = floor
  goes TowardZero s = floor

-- ---- the format holds it
held : (s : Bool) (n : ℕ) → n ≤ 2 ^ 53 → HasValue (round binary64 s n 1) s n 1
held s n h = elim (eq-or-lt_of_le h) [
  | inl e ↦ subst (λ (x : ℕ). HasValue (round binary64 s x 1) s x 1) (sym e) (round_exact binary64 s (2 ^ 53) 1 (2 ^ 52) 1075 (lit< tt) (lit< tt) (lit< tt) refl)
  | inr l ↦ round_exact binary64 s n 1 n 1074 (lit< tt) l (lt_of_lt_of_le (shl_lt 53 1074 l) (pow_mono {i = 53 + 1074} {j = 2098} (omega arith))) (sym (mul-one (n * 2 ^ 1074)))
]

-- a value has one sign and one size
same-value : (x : Float) (s t : Bool) (p c q d : ℕ) → HasValue x s p c → HasValue x t q d → (t ≡ s) × (q * c ≡ p * d)
same-value nan s t p c q d v w = absurd v
same-value (inf u) s t p c q d v w = absurd v
same-value (fin u m e) s t p c q d v w = (
  sym w.0 ∙ v.0,
  eq_of_mul-eq-mul_right (down e) (down_pos e) (q * c) (p * d)
      (mul_right_comm q c (down e)
      ∙ ap (λ (x : ℕ). x * c) (sym w.1)
      ∙ mul_right_comm (m * up e) d c
      ∙ ap (λ (x : ℕ). x * d) v.1
      ∙ mul_right_comm p (down e) d),
)

-- of a word that is n / c in size too, where the format holds what that goes to
module _ (d : Direction) (a : ℕ) (s : Bool) (p c : ℕ) (C : 0 < c) (v : HasValue (value a) s p c) where
  abbrev n : ℕ
  n = whole d s p c

  Exact : Type 0
  Exact = HasValue (round binary64 s n 1) s n 1

  by : (t : Bool) (q e : ℕ) → 0 < e → HasValue (value a) t q e → HasValue (round binary64 t (whole d t q e) 1) t (whole d t q e) 1 → Exact
  unfolding Exact
  by t q e E w h =
      let same = same-value (value a) s t p c q e v w in
      let sizes = whole_same q e p c E C same.1 d s in
      subst (λ (k : ℕ). HasValue (round binary64 s k 1) s k 1) sizes
      (subst (λ (u : Bool). HasValue (round binary64 u (whole d u q e) 1) u (whole d u q e) 1) same.0 h)

  zero-exact : a % 2 ^ 63 ≡ 0 → Exact
  zero-exact z =
      by (leb (2 ^ 63) a) 0 1 (lit< tt) (subst (λ (x : Float). HasValue x (leb (2 ^ 63) a) 0 1) (sym (word_zero a z)) (refl, refl))
      (held (leb (2 ^ 63) a) _ (omega (arith, whole_most d (leb (2 ^ 63) a) 0 1)))

  small-exact : 0 < a % 2 ^ 63 → a % 2 ^ 63 < 1075 * 2 ^ 52 → Exact
  small-exact lo hi = go (unpacked a lo (omega arith))
    where
      go : (m : ℕ) × (e : ℤ) × Unpacked a (leb (2 ^ 63) a) m e → Exact
      go u =
          let m = u.0 in
          let e = u.1 in
          let t = leb (2 ^ 63) a in
          let k = 8192 - biased e in
          let i : Is e 0 k =
          is_shift e (biased e) 8192 0 k (is_biased e (omega (arith, u.2.small))) (omega (arith, u.2.place)) in
          by t m (2 ^ k) (pow_pos k)
          (rescale (value a) t (m * up e) (down e) m (2 ^ k) (down_pos e)
          (sym (mul_assoc m (up e) (2 ^ k) ∙ ap (λ (x : ℕ). m * x) (is_pow e 0 k i ∙ one-mul (down e)))) u.2.value)
          (held t _ (omega (arith, u.2.hi, whole_most d t m (2 ^ k), div-le_self m (2 ^ k))))

  large-exact : 1075 * 2 ^ 52 ≤ a % 2 ^ 63 → a % 2 ^ 63 < 2047 * 2 ^ 52 → Exact
  large-exact lo hi =
      let t = leb (2 ^ 63) a in
      let u = large_value a lo hi in
      by t (u.0 * 2 ^ 1074) (2 ^ 1074) (pow_pos 1074) u.1
      (subst (λ (k : ℕ). HasValue (round binary64 t k 1) t k 1) (sym (no_rest d t u.0 (2 ^ 1074) (pow_pos 1074))) u.2)

  finite : a % 2 ^ 63 < 2047 * 2 ^ 52
  finite = go (ltb (2047 * 2 ^ 52) (a % 2 ^ 63)) (ltb (a % 2 ^ 63) (2047 * 2 ^ 52)) refl refl
    where
      lost : (x : Float) → value a ≡ x → HasValue x s p c
      lost x e = subst (λ (y : Float). HasValue y s p c) e v

      go : (over under : Bool) → ltb (2047 * 2 ^ 52) (a % 2 ^ 63) ≡ over → ltb (a % 2 ^ 63) (2047 * 2 ^ 52) ≡ under → a % 2 ^ 63 < 2047 * 2 ^ 52
      go over true o u = ltb-true (a % 2 ^ 63) (2047 * 2 ^ 52) u
      go true false o u = absurd (lost nan (above_nan a (ltb-true (2047 * 2 ^ 52) (a % 2 ^ 63) o)))
      go false false o u =
          absurd (lost (inf (leb (2 ^ 63) a)) (word_infinite a (omega (arith, ltb-false (2047 * 2 ^ 52) (a % 2 ^ 63) o, ltb-false (a % 2 ^ 63) (2047 * 2 ^ 52) u))))

  exact : Exact
  exact = elim (eq-zero-or-pos (a % 2 ^ 63)) [
    | inl z ↦ zero-exact z
    | inr h ↦ go (ltb (a % 2 ^ 63) (1075 * 2 ^ 52)) refl h
  ]
    where
      go : (b : Bool) → ltb (a % 2 ^ 63) (1075 * 2 ^ 52) ≡ b → 0 < a % 2 ^ 63 → Exact
      go true e h = small-exact h (ltb-true (a % 2 ^ 63) (1075 * 2 ^ 52) e)
      go false e h = large-exact (ltb-false (a % 2 ^ 63) (1075 * 2 ^ 52) e) finite

pub integral_law : IntegralLaw (λ d. round_to_integral d binary64)
unfolding Exact
integral_law d a s p c C v = (
  whole d s p c,
  goes p c C d s,
  subst (λ (y : Float). HasValue y s (whole d s p c) 1) (sym (integral_at d (value a) s p c C v)) (exact d a s p c C v),
)
