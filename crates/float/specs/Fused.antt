-- fusedMultiplyAdd of IEEE 754 (5.4.1): (x × y) + z as if with unbounded range and precision, rounded once. Assumes nothing.
use Rattle.std.specs.Prelude.{ℕ, ◌*◌, Bool, cond, eqb, Float}
use Rattle.std.specs.Bool.{beq}
use Rattle.std.specs.Float.{nan, inf, fin, Format}
use Rattle.std.specs.Float.Ieee.{up, down, unlike, sum}

-- a product that is not rounded: none (a NaN), an infinity with its sign, or the fraction n / d with its sign
pub data Product : Type 0 where
  none : Product
  infinite : Bool → Product
  exactly : Bool → ℕ → ℕ → Product

-- As in multiplication, but for the rounding: 0 × infinity is a NaN (7.2), and the sign is that of 6.3.
unfoldable pub product : Float → Float → Product
product nan y = none
product (inf s) nan = none
product (inf s) (inf t) = infinite (unlike s t)
product (inf s) (fin t n d) = cond (eqb n 0) none (infinite (unlike s t))
product (fin s m e) nan = none
product (fin s m e) (inf t) = cond (eqb m 0) none (infinite (unlike s t))
product (fin s m e) (fin t n d) = exactly (unlike s t) (m * up e * (n * up d)) (down e * down d)

-- As in addition: infinities of unlike signs give a NaN (7.2). `sum` rounds ±a / c + ±b / c once, and has 6.3's sign of a sum that is exactly zero.
unfoldable pub plus_product : Format → Product → Float → Float
unfolding sum
plus_product f none z = nan
plus_product f (infinite s) nan = nan
plus_product f (infinite s) (inf t) = cond (beq s t) (inf s) nan
plus_product f (infinite s) (fin t n d) = inf s
plus_product f (exactly s a c) nan = nan
plus_product f (exactly s a c) (inf t) = inf t
plus_product f (exactly s a c) (fin t n d) = sum f s (a * down d) t (n * up d * c) (c * down d)

-- x * y + z, rounded by `plus_product` alone
unfoldable pub fused_multiply_add : Format → Float → Float → Float → Float
unfolding product plus_product
fused_multiply_add f x y z = plus_product f (product x y) z
