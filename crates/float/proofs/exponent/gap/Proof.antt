-- `float::exponent::gap` meets its contract. Assumes nothing.
use mathlib.Core.Path.{◌≡◌}
use Prim.Native.Nat.{◌+◌, ◌-◌, ◌^◌, ◌≤◌, ◌<◌}
use native.Mathlib.Omega.{arith}
use lib.Dec.{T}
use lib.IntN.{ℤ, nat_abs, ◌-ℤ◌}
use lib.Signed.{mag, non_neg}
use Rattle.float.specs.Biased.{biased}
use Rattle.float.proofs.Signed.{Is, is_sub, is_mag, is_abs, is_nonneg, read, is_read, is_handed, range_of}
use Rattle.float.proofs.exponent.gap.Statement.{statement}
use Rattle.float.proofs.exponent.gap.Tie as tie

module _ (a b : ℤ) (A : mag a < 4096) (B : mag b < 4096) (l : biased b ≤ biased a) where
  abbrev pub diff : ℤ
  diff = read a -ℤ read b

  diff_is : Is diff (biased a + 8192) (8192 + biased b)
  diff_is = is_sub (read a) (read b) (biased a) 8192 (biased b) 8192 (is_handed a (omega arith)) (is_handed b (omega arith))

  pub diff-mag : mag diff < 2 ^ 31
  diff-mag = let p = range_of a 4096 A (omega arith) in is_mag diff (biased a + 8192) (8192 + biased b) (2 ^ 31) diff_is (omega (arith, p.1)) (omega arith)

  read_is : Is (read diff) (biased a + 8192) (8192 + biased b)
  read_is = is_read diff (biased a + 8192) (8192 + biased b) diff-mag diff_is

  pub diff-nonneg : T (non_neg (read diff))
  diff-nonneg = is_nonneg (read diff) (biased a + 8192) (8192 + biased b) read_is (omega arith)

  pub diff-abs : nat_abs (read diff) ≡ biased a + 8192 - (8192 + biased b)
  diff-abs = is_abs (read diff) (biased a + 8192) (8192 + biased b) read_is (omega arith)

  pub diff-fits : nat_abs (read diff) < 2 ^ 32
  diff-fits = let p = range_of a 4096 A (omega arith) in omega (arith, diff-abs, p.1)

  pub result : biased a ≡ biased b + nat_abs (read diff)
  result = omega (arith, diff-abs)

sub-result : tie.Need-overflow_sub-result
sub-result c = record { sfits = diff-mag c.args.a c.args.b c.requires.0 c.requires.1 c.requires.2 }

cast-result : tie.Need-overflow_cast-result
cast-result c = (diff-nonneg c.args.a c.args.b c.requires.0 c.requires.1 c.requires.2, record { fits = diff-fits c.args.a c.args.b c.requires.0 c.requires.1 c.requires.2 })

returns : tie.Need-returns
returns c = result c.args.a c.args.b c.requires.0 c.requires.1 c.requires.2

pub gap_spec : {M : Type 1} → statement M
gap_spec = tie.close (tie.spec sub-result cast-result returns)
