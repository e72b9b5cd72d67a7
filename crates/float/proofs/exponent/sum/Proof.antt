-- `float::exponent::sum` meets its contract. Assumes nothing.
use mathlib.Core.Path.{◌≡◌}
use Prim.Native.Nat.{◌+◌, ◌^◌, ◌<◌}
use native.Mathlib.Omega.{arith}
use lib.IntN.{ℤ, ◌+ℤ◌}
use lib.Signed.{mag}
use Rattle.float.specs.Biased.{biased}
use Rattle.float.proofs.Signed.{Is, is_bias, is_add, is_mag, read, is_read, is_handed, range_of}
use Rattle.float.proofs.exponent.sum.Statement.{statement}
use Rattle.float.proofs.exponent.sum.Tie as tie

module _ (a b : ℤ) (A : mag a < 4096) (B : mag b < 4096) where
  abbrev pub total : ℤ
  total = read a +ℤ read b

  total-is : Is total (biased a + biased b) (8192 + 8192)
  total-is = is_add (read a) (read b) (biased a) 8192 (biased b) 8192 (is_handed a (omega arith)) (is_handed b (omega arith))

  near : (z : ℤ) → Is z (biased a + biased b) (8192 + 8192) → mag z < 8192
  near z i =
      let p = range_of a 4096 A (omega arith) in
      let q = range_of b 4096 B (omega arith) in
      is_mag z (biased a + biased b) (8192 + 8192) 8192 i (omega (arith, p.1, q.1)) (omega (arith, p.0, q.0))

  pub fits : mag total < 2 ^ 31
  fits = omega (arith, near total total-is)

  pub result : (biased (read total) + 8192 ≡ biased a + biased b) × (mag (read total) < 8192)
  result =
      let i = is_read total (biased a + biased b) (8192 + 8192) fits total-is in
      let p = range_of a 4096 A (omega arith) in
      let q = range_of b 4096 B (omega arith) in
      (omega (arith, is_bias (read total) (biased a + biased b) (8192 + 8192) i (omega (arith, p.0, q.0)), p.0, q.0), near (read total) i)

add-result : tie.Need-overflow_add-result
add-result c = record { sfits = fits c.args.a c.args.b c.requires.0 c.requires.1 }

returns : tie.Need-returns
returns c = result c.args.a c.args.b c.requires.0 c.requires.1

pub sum_spec : {M : Type 1} → statement M
sum_spec = tie.close (tie.spec add-result returns)
