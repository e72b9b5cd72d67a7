-- `float::exponent::below_point` meets its contract. Assumes nothing.
use mathlib.Core.Path.{◌≡◌}
use Prim.Native.Nat.{◌+◌, ◌-◌, ◌^◌, ◌≤◌, ◌<◌}
use native.Mathlib.Omega.{arith}
use lib.Dec.{T}
use lib.IntN.{ℤ, pos, nat_abs, ◌-ℤ◌}
use lib.Signed.{mag, non_neg}
use Rattle.float.specs.Biased.{biased}
use Rattle.float.proofs.Signed.{Is, is_biased, is_pos, is_sub, is_shift, is_mag, is_abs, is_nonneg, read, is_read}
use Rattle.float.proofs.exponent.below_point.Statement.{statement}
use Rattle.float.proofs.exponent.below_point.Tie as tie

module _ (e : ℤ) (small : mag e < 1200) (neg : biased e ≤ 8192) where
  abbrev pub minus : ℤ
  minus = pos 0 -ℤ read e

  pub minus_is : Is minus 8192 (biased e)
  minus_is =
      is_shift minus (0 + 8192) (0 + biased e) 8192 (biased e)
      (is_sub (pos 0) (read e) 0 0 (biased e) 8192 (is_pos 0) (is_read e (biased e) 8192 (omega arith) (is_biased e (omega arith)))) (omega arith)

  pub minus-mag : mag minus < 2 ^ 31
  minus-mag = is_mag minus 8192 (biased e) (2 ^ 31) minus_is (omega arith) (omega arith)

  read_is : Is (read minus) 8192 (biased e)
  read_is = is_read minus 8192 (biased e) minus-mag minus_is

  pub minus-abs : nat_abs (read minus) ≡ 8192 - biased e
  minus-abs = is_abs (read minus) 8192 (biased e) read_is neg

  pub minus-nonneg : T (non_neg (read minus))
  minus-nonneg = is_nonneg (read minus) 8192 (biased e) read_is neg

sub-result : tie.Need-overflow_sub-result
sub-result c = record { sfits = minus-mag c.args.e c.requires.0 c.requires.1 }

cast-result : tie.Need-overflow_cast-result
cast-result c = (minus-nonneg c.args.e c.requires.0 c.requires.1, record { fits = omega (arith, minus-abs c.args.e c.requires.0 c.requires.1) })

returns : tie.Need-returns
returns c = minus-abs c.args.e c.requires.0 c.requires.1

pub below_point_spec : {M : Type 1} → statement M
below_point_spec = tie.close (tie.spec sub-result cast-result returns)
