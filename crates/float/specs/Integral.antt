-- roundToIntegral of IEEE 754 (5.3.1), in each direction of 4.3, which src/integral.rt declares. Assumes nothing.
use Rattle.std.specs.Prelude.{ℕ, ◌+◌, ◌*◌, ◌/◌, ◌%◌, Bool, cond, eqb, Float}
use Rattle.std.specs.Float.{nan, inf, fin, Format}
use Rattle.std.specs.Float.Ieee.{up, down, round}
use Rattle.std.specs.Float.Ieee.Nearest.{closest}
use Rattle.float.specs.declared.integral.Direction.{Direction}
use Rattle.float.specs.declared.integral.Direction.TheVariants.{TiesToEven, TowardNegative, TowardPositive, TowardZero}

-- the least whole number that is not below n / c
abbrev pub ceiling : ℕ → ℕ → ℕ
ceiling n c = n / c + cond (eqb (n % c) 0) 0 1

-- The size of the whole number that n / c, with the sign s, goes to. `closest` is the nearest one, and of two that are equally near the even one.
abbrev pub whole : Direction → Bool → ℕ → ℕ → ℕ
whole TiesToEven s n c = closest n c
whole TowardNegative s n c = cond s (ceiling n c) (n / c)
whole TowardPositive s n c = cond s (n / c) (ceiling n c)
whole TowardZero s n c = n / c

-- An infinity is kept (6.1), a NaN too (6.2); a result of zero has the operand's sign (6.3). The whole number is a value of the format, so that `round` only writes it down.
unfoldable pub round_to_integral : Direction → Format → Float → Float
unfolding round
round_to_integral d f nan = nan
round_to_integral d f (inf s) = inf s
round_to_integral d f (fin s m e) = round f s (whole d s (m * up e) (down e)) 1
