-- The steps of specs/Mends.antt lead to Word's root: `RootByMends`. Assumes nothing.
use mathlib.Core.Path.{◌≡◌, refl, sym, ap, ◌∙◌, subst}
use mathlib.Core.Bool.{Bool, true, false, not, cond}
use mathlib.Core.List.{[], ◌∷◌}
use Prim.Native.Nat.{ℕ, ◌+◌, ◌-◌, ◌*◌, ◌/◌, ◌%◌, ◌^◌, ◌≤◌, ◌<◌, Ordering}
use native.Mathlib.Nat.{lt_of_lt_of_le, mul-le-mul_left, mod-eq_of_lt}
use native.Mathlib.Numerals.{add-one}
use native.Mathlib.Omega.{arith}
use borrow.Author.Tests.{le-leb, lt-leb}
use lib.Dec.{T, leb, leb→le, nleb→lt}
use lib.Arith.{lt→nleb}
use lib.Pow.{shl_lt, pow_pos, pow_mono}
use lib.IntN.{ℤ}
use lib.Ieee.{binary64, nearest, is_nan}
use lib.Ieee.Bits.{is_false}
use Rattle.float.specs.Root.{square_root}
use Rattle.float.specs.Word.{value, root}
use Rattle.float.specs.Unpacked.{Unpacked}
use Rattle.float.specs.Biased.{biased}
use Rattle.float.specs.Mends.{mended, rounded, RootByMends}
use Rattle.float.proofs.Closest.{Cmp}
use Rattle.float.proofs.Fields.{unpacked}
use Rattle.float.proofs.Marks.{number_word, units_number}
use Rattle.float.proofs.SquareRoot.{root-units, root-word, q-lo, q-hi, k-hi}
use Rattle.float.proofs.Heron.{eight-mends}

-- the significand with the odd digit
pub widened : (m o : ℕ) → 2 ^ 52 ≤ m → m < 2 ^ 53 → o ≤ 1 → (2 ^ 52 ≤ m * 2 ^ o) × (m * 2 ^ o < 2 ^ 54)
widened m o lo hi h = (omega (arith, mul-le-mul_left m (pow_pos o)), lt_of_lt_of_le (shl_lt 53 o hi) (pow_mono {i = 53 + o} {j = 54} (omega arith)))

-- rounding by the rest r
pub rounded_is : (m q r : ℕ) → q ≡ (mended m).value → q * q + r ≡ m * 2 ^ 52 → cond (leb r q) q (q + 1) ≡ rounded m
unfolding rounded
rounded_is m q r e is = go (leb r q) (leb→le r q) (nleb→lt r q) ∙ ap (λ (x : ℕ). cond (leb (m * 2 ^ 52) (x * x + x)) x (x + 1)) e
  where
    go : (b : Bool) → (T b → r ≤ q) → (T (not b) → q < r) → cond b q (q + 1) ≡ cond (leb (m * 2 ^ 52) (q * q + q)) q (q + 1)
    go true y x = let l = y tt in sym (ap (λ (b : Bool). cond b q (q + 1)) (le-leb (m * 2 ^ 52) (q * q + q) (omega (arith, is, l))))
    go false y x = let l = x tt in sym (ap (λ (b : Bool). cond b q (q + 1)) (lt-leb (m * 2 ^ 52) (q * q + q) (omega (arith, is, l))))

-- a word below infinity's has no sign
pub positive : (a m : ℕ) (e : ℤ) {neg : Bool} → Unpacked a neg m e → a < 2047 * 2 ^ 52 → Unpacked a false m e
positive a m e t h = subst (λ (s : Bool). Unpacked a s m e) (t.sign ∙ is_false (leb (2 ^ 63) a) (lt→nleb (2 ^ 63) a (omega arith))) t

module _ (a m : ℕ) (e : ℤ) (u : Unpacked a false m e) where
  abbrev M : ℕ
  M = m * 2 ^ (biased e % 2)

  abbrev pub field : ℕ
  field = biased e / 2 - 3048

  abbrev q : ℕ
  q = (mended M).value

  abbrev r : ℕ
  r = M * 2 ^ 52 - q * q

  whole : (q * q ≤ M * 2 ^ 52) × (M * 2 ^ 52 < (q + 1) * (q + 1))
  whole = let w = widened m (biased e % 2) u.lo u.hi (omega arith) in (eight-mends M w.0 w.1).0

  is : q * q + r ≡ M * 2 ^ 52
  is = omega (arith, whole.0)

  rest : r ≤ 2 * q
  rest = omega (arith, whole.1)

  pub field-hi : field ≤ 1648
  field-hi = k-hi m e M q r u.small u.lo u.hi refl is rest

  by : (o : Ordering) → Cmp o (4 * (q * q + r)) ((2 * q + 1) * (2 * q + 1)) → nearest q o ≤ 2 ^ 53 → 2 ^ 52 ≤ nearest q o → root a ≡ field * 2 ^ 52 + nearest q o
  by o h top bot =
      sym (number_word (a ∷ []) (square_root binary64 (value a))
      (ap is_nan (root-units m e M q r u.small u.lo u.hi refl is rest (value a) u.value o h) ∙ units_number false (nearest q o) field))
      ∙ root-word m e M q r u.small u.lo u.hi refl is rest (value a) u.value o h top bot

  pub by-mends : root a ≡ field * 2 ^ 52 + rounded M
  by-mends = go (leb r q) (leb→le r q) (nleb→lt r q) ∙ ap (λ (x : ℕ). field * 2 ^ 52 + x) (rounded_is M q r refl is)
    where
      lo : 2 ^ 52 ≤ q
      lo = q-lo m e M q r u.small u.lo u.hi refl is rest

      hi : q < 2 ^ 53
      hi = q-hi m e M q r u.small u.lo u.hi refl is rest

      go : (b : Bool) → (T b → r ≤ q) → (T (not b) → q < r) → root a ≡ field * 2 ^ 52 + cond b q (q + 1)
      go true y x = let l = y tt in by Ordering.lt (omega (arith, l)) (omega (arith, hi)) lo
      go false y x =
          let l = x tt in
          by Ordering.gt (omega (arith, l)) (omega (arith, hi)) (omega (arith, lo)) ∙ ap (λ (x : ℕ). field * 2 ^ 52 + x) (sym (add-one q))

pub root-by-mends : RootByMends root
root-by-mends a lo hi =
    let own : a % 2 ^ 63 ≡ a = mod-eq_of_lt (omega arith) in
    let u = unpacked a (omega (arith, own)) (omega (arith, own)) in
    let plus = positive a u.0 u.1 u.2 hi in
    (u.0, u.1, plus, by-mends a u.0 u.1 plus)
