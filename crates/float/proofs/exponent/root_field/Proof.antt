-- `float::exponent::root_field` meets its contract. Assumes nothing.
use mathlib.Core.Path.{◌≡◌, ◌∙◌}
use Prim.Native.Nat.{◌+◌, ◌-◌, ◌/◌, ◌^◌, ◌≤◌, ◌<◌}
use native.Mathlib.Omega.{arith}
use lib.Dec.{T}
use lib.IntN.{ℤ, pos, negsuc, nat_abs, ◌+ℤ◌}
use lib.Signed.{mag, non_neg, shr_z}
use Rattle.float.specs.Biased.{biased}
use Rattle.float.proofs.Signed.{Is, is_biased, is_pos, is_add, is_mag, is_abs, is_nonneg, is-half, read, is_read}
use Rattle.float.proofs.exponent.root_field.Statement.{statement}
use Rattle.float.proofs.exponent.root_field.Tie as tie

module _ (e : ℤ) (small : mag e < 1200) where
  range : (6992 ≤ biased e) × (biased e < 9392)
  range = go e small
    where
      go : (z : ℤ) → mag z < 1200 → (6992 ≤ biased z) × (biased z < 9392)
      go (pos n) h = (omega arith, omega arith)
      go (negsuc n) h = (omega arith, omega arith)

  half_is : Is (shr_z (read e) 2) (biased e / 2) 4096
  half_is = is-half (read e) (biased e) 4096 (is_read e (biased e) 8192 (omega arith) (is_biased e (omega arith)))

  half-read : Is (read (shr_z (read e) 2)) (biased e / 2) 4096
  half-read = is_read (shr_z (read e) 2) (biased e / 2) 4096 (is_mag (shr_z (read e) 2) (biased e / 2) 4096 (2 ^ 31) half_is (omega (arith, range.1)) (omega arith)) half_is

  abbrev pub sum : ℤ
  sum = read (shr_z (read e) 2) +ℤ pos 1048

  pub sum_is : Is sum (biased e / 2 + 1048) 4096
  sum_is = is_add (read (shr_z (read e) 2)) (pos 1048) (biased e / 2) 4096 1048 0 half-read (is_pos 1048)

  pub sum-mag : mag sum < 2 ^ 31
  sum-mag = is_mag sum (biased e / 2 + 1048) 4096 (2 ^ 31) sum_is (omega (arith, range.1)) (omega arith)

  pub sum-abs : nat_abs (read sum) ≡ biased e / 2 - 3048
  sum-abs = is_abs (read sum) (biased e / 2 + 1048) 4096 (is_read sum (biased e / 2 + 1048) 4096 sum-mag sum_is) (omega (arith, range.0)) ∙ omega arith

  pub sum_nonneg : T (non_neg (read sum))
  sum_nonneg = is_nonneg (read sum) (biased e / 2 + 1048) 4096 (is_read sum (biased e / 2 + 1048) 4096 sum-mag sum_is) (omega (arith, range.0))

  pub sum_fits : nat_abs (read sum) < 2 ^ 64
  sum_fits = omega (arith, sum-abs, range.1)

add-result : tie.Need-overflow_add-result
add-result c = record { sfits = sum-mag c.args.e c.requires }

cast-result : tie.Need-overflow_cast-result
cast-result c = (sum_nonneg c.args.e c.requires, record { fits = sum_fits c.args.e c.requires })

returns : tie.Need-returns
returns c = sum-abs c.args.e c.requires

pub root_field_spec : {M : Type 1} → statement M
root_field_spec = tie.close (tie.spec add-result cast-result returns)
