-- `float::fused::product_exponent` meets its contract. Assumes nothing.
use mathlib.Core.Path.{◌≡◌, sym, ap, ap₂, ◌∙◌, subst}
use Prim.Native.Nat.{◌+◌, ◌<◌}
use native.Mathlib.Omega.{arith}
use lib.IntN.{ℤ, negsuc}
use lib.Signed.{mag}
use Rattle.float.specs.Biased.{biased}
use Rattle.float.proofs.Signed.{read, same, handed, range_of, mag_of}
use Rattle.float.proofs.fused.product_exponent.Statement.{statement}
use Rattle.float.proofs.fused.product_exponent.Tie as tie

-- the sum of both exponents
module _ (c : tie.After-sum) where
  abbrev a : ℤ
  a = c.args.a

  abbrev b : ℤ
  b = c.args.b

  total : biased c.sum.result + 8192 ≡ biased a + biased b
  total = c.sum.ensures.0 ∙ ap₂ (λ (x y : ℤ). biased x + biased y) (same a 1200 c.requires.0 (omega arith)) (same b 1200 c.requires.1 (omega arith))

  pub total-mag : mag c.sum.result < 3000
  total-mag =
      let p = range_of a 1200 c.requires.0 (omega arith) in
      let q = range_of b 1200 c.requires.1 (omega arith) in
      mag_of c.sum.result 3000 (omega arith) (omega (arith, total, p.0, q.0)) (omega (arith, total, p.1, q.1))

  pub less : (r : ℤ) → (biased r + 8192 ≡ biased (read c.sum.result) + biased (negsuc 20)) × (mag r < 8192) → (biased r + 8213 ≡ biased a + biased b) × (mag r < 4000)
  less r h =
      let e : biased r + 21 ≡ biased c.sum.result = omega (arith, h.0, ap biased (same c.sum.result 3000 total-mag (omega arith))) in
      let n = range_of c.sum.result 3000 total-mag (omega arith) in
      (omega (arith, e, total), mag_of r 4000 (omega arith) (omega (arith, e, n.0)) (omega (arith, e, n.1)))

sum-requires : tie.Need-sum-requires
sum-requires c κs = (handed c.args.a 4096 (omega (arith, c.requires.0)) (omega arith), handed c.args.b 4096 (omega (arith, c.requires.1)) (omega arith))

sum-requires-2 : tie.Need-sum-requires-2
sum-requires-2 c κs = (handed c.sum.result 4096 (omega (arith, total-mag c)) (omega arith), omega arith)

returns : tie.Need-returns
returns c =
    let r = c.sum-2.result in
    let d = c.before in
    subst (λ (z : ℤ). (biased z + 8213 ≡ biased (a d) + biased (b d)) × (mag z < 4000)) (sym (same r 8192 c.sum-2.ensures.1 (omega arith))) (less d r c.sum-2.ensures)

pub product_exponent_spec : {M : Type 1} → statement M
product_exponent_spec = tie.close (tie.spec sum-requires sum-requires-2 returns)
