-- squareRoot of IEEE 754 (5.4.1), over whole numbers. Assumes nothing.
use Prim.Native.Nat.{ℕ, zero, suc, ◌+◌, ◌-◌, ◌*◌, ◌/◌, ◌^◌, compare}
use Rattle.std.specs.Prelude.{cond, false, leb, Float}
use Rattle.std.specs.Float.{nan, inf, fin, Format}
use Rattle.std.specs.Float.Ieee.{prec, low, up, down, size, nearest, units}

-- the whole part of the square root of an n below 4 ^ d: of each two binary digits of n comes one of the root
unfoldable pub root_digits : ℕ → ℕ → ℕ
root_digits zero n = 0
root_digits (suc d) n = let r = 2 * root_digits d (n / 4) in cond (leb ((r + 1) * (r + 1)) n) (r + 1) r

-- the largest whole number whose square is not above n (IsWholeRoot of Laws.antt)
unfoldable pub whole_root : ℕ → ℕ
unfolding root_digits size
whole_root n = root_digits (size n) n

-- 4.3.1 roundTiesToEven of the square root of n, where n counts squares of the format's smallest value and the result counts smallest values.
-- The format keeps the leading digits of the root, q, and drops k of them. The root is below, at or above (q + 1 / 2) * 2 ^ k
-- as 4 * n is to the square of (2 * q + 1) * 2 ^ k.
unfoldable pub round_root : Format → ℕ → Float
unfolding whole_root size units
round_root f n =
    let k = size (whole_root n) - prec f in
    let q = whole_root n / 2 ^ k in
    units f false (nearest q (compare (4 * n) ((2 * q + 1) * (2 * q + 1) * 4 ^ k))) k

-- A NaN gives a NaN (6.2), +infinity itself (6.1), either zero itself (6.3: squareRoot(-0) is -0), and every other negative operand a NaN (7.2).
-- Counted in squares of the smallest value, 2 ^ -low, the operand is a whole number.
unfoldable pub square_root : Format → Float → Float
unfolding round_root
square_root f nan = nan
square_root f (inf s) = cond s nan (inf s)
square_root f (fin s zero e) = fin s zero e
square_root f (fin s (suc m) e) = cond s nan (round_root f (suc m * up e * 2 ^ (low f + low f) / down e))
