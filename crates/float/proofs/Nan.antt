-- NaNs: the tests that tell one, and the value that they tell. Assumes nothing.
use mathlib.Core.Path.{◌≡◌, refl, sym, ◌∙◌, subst}
use mathlib.Core.Bool.{Bool, true, false, not}
use Prim.Native.Nat.{ℕ, ◌*◌, ◌%◌, ◌^◌, ◌<◌, ◌≤◌}
use lib.Dec.{T}
use lib.Ieee.{Float, nan, inf, fin, binary64, is_nan, ne, of_bits, to_bits, nan_bits}
use lib.Ieee.Bits.{nan_bits_is, nan_bits_above, to_bits-of_bits}
use borrow.Author.Tests.{lt-ltb, le-ltb}
use lib.Ieee.Compare.{differs_from_itself}

pub of_true : (b : Bool) → b ≡ true → T b
of_true b e = subst T (sym e) tt

pub of_false : (b : Bool) → b ≡ false → T (not b)
of_false b e = subst (λ (t : Bool). T (not t)) (sym e) tt

pub only_nan : (x : Float) → is_nan x ≡ true → x ≡ nan
unfolding is_nan
only_nan nan e = refl
only_nan (inf s) e = absurd (of_true false e)
only_nan (fin s m d) e = absurd (of_true false e)

pub bits_nan : (a : ℕ) → nan_bits binary64 a ≡ true → of_bits binary64 a ≡ nan
bits_nan a e = only_nan (of_bits binary64 a) (sym (nan_bits_is binary64 a) ∙ e)

pub above_nan : (a : ℕ) → 2047 * 2 ^ 52 < a % 2 ^ 63 → of_bits binary64 a ≡ nan
above_nan a h = bits_nan a (nan_bits_above binary64 a ∙ lt-ltb (2047 * 2 ^ 52) (a % 2 ^ 63) h)

pub not_nan : (a : ℕ) → a % 2 ^ 63 ≤ 2047 * 2 ^ 52 → T (not (is_nan (of_bits binary64 a)))
not_nan a h = subst (λ (b : Bool). T (not b)) (nan_bits_is binary64 a) (of_false (nan_bits binary64 a) (nan_bits_above binary64 a ∙ le-ltb (2047 * 2 ^ 52) (a % 2 ^ 63) h))

-- a word that is no NaN's comes back
pub kept_word : (a : ℕ) → a < 2 ^ 64 → a % 2 ^ 63 ≤ 2047 * 2 ^ 52 → to_bits binary64 (of_bits binary64 a) ≡ a
kept_word a h g = to_bits-of_bits binary64 a h (not_nan a g)

pub unequal : (x : Float) → ne x x ≡ true → x ≡ nan
unequal x e = differs_from_itself x (of_true (ne x x) e)

pub equal : (x : Float) → ne x x ≡ false → T (not (is_nan x))
unfolding ne is_nan
equal nan e = of_false true e
equal (inf s) e = tt
equal (fin s m d) e = tt
