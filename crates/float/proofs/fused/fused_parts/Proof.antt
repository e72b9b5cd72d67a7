-- `float::fused::fused_parts` meets its contract (`Alignment.antt`). Assumes nothing.
use mathlib.Core.Path.{◌≡◌, sym, ap, ap₂, ◌∙◌}
use mathlib.Core.Bool.{Bool}
use Prim.Native.Nat.{ℕ, ◌+◌, ◌*◌, ◌^◌, ◌<◌}
use native.Mathlib.Omega.{arith}
use lib.IntN.{ℤ}
use lib.Signed.{mag}
use lib.Ieee.{binary64, to_bits, sum, unlike}
use borrow.Author.Rules.{rules}
use borrow.Author.Tests.{leb-true, leb-false}
use Rattle.float.specs.Near.{both, Scaled}
use Rattle.float.specs.Biased.{biased}
use Rattle.float.proofs.Signed.{read, same, handed, mag_of, range_of}
use Rattle.float.proofs.FusedSum.{sum_comm}
use Rattle.float.proofs.Alignment.{product-scaled, addend_scaled, fused-sum}
use Rattle.float.proofs.fused.fused_parts.Statement.{statement}
use Rattle.float.proofs.fused.fused_parts.Tie as tie

-- ---- what is known once both exponents are there
module _ (l : tie.After-sum-ez) where
  abbrev start : tie.Start
  start = l.before.before.before.before.before.before.before.before.before.before

  abbrev ep : ℤ
  ep = l.product_exponent-ep.result

  abbrev ez : ℤ
  ez = l.sum-ez.result

  ep-mag : mag ep < 4000
  ep-mag = l.product_exponent-ep.ensures.1

  ep-is : biased ep + 8213 ≡ biased start.args.x.e + biased start.args.y.e
  ep-is =
      l.product_exponent-ep.ensures.0
      ∙ ap₂ (λ (a b : ℤ). biased a + biased b) (same start.args.x.e 1200 start.requires.0.small (omega arith)) (same start.args.y.e 1200 start.requires.1.small (omega arith))

  ez-is : biased ez + 73 ≡ biased start.args.z.e
  ez-is = omega (arith, l.sum-ez.ensures.0, ap biased (same start.args.z.e 1200 start.requires.2.small (omega arith)))

  ez-mag : mag ez < 4000
  ez-mag =
      let r = range_of start.args.z.e 1200 start.requires.2.small (omega arith) in
      mag_of ez 4000 (omega arith) (omega (arith, ez-is, r.0)) (omega (arith, ez-is, r.1))

  ep-read : biased (read ep) ≡ biased ep
  ep-read = ap biased (same ep 4000 ep-mag (omega arith))

  ez-read : biased (read ez) ≡ biased ez
  ez-read = ap biased (same ez 4000 ez-mag (omega arith))

  abbrev p : ℕ
  p = both l.product-p.result.hi l.product-p.result.lo

  p-is : p ≡ start.args.x.m * 1024 * (start.args.y.m * 2048)
  p-is = l.product-p.ensures

  p-scaled : Scaled p
  p-scaled = rw p-is (product-scaled start.args.x.m start.args.y.m start.args.x.e start.args.y.e start.requires.0 start.requires.1)

  z-scaled : Scaled (both (start.args.z.m * 512) 0)
  z-scaled = addend_scaled start.args.z.m start.args.z.e start.requires.2

  -- the contract's sum, from that of the two in either order
  by_parts : (s t : Bool) {r : ℕ} → r ≡ to_bits binary64 (sum binary64 s (p * 2 ^ biased (read ep)) t (both (start.args.z.m * 512) 0 * 2 ^ biased (read ez)) (2 ^ 8192))
      → r ≡ to_bits binary64 (sum binary64 s (start.args.x.m * start.args.y.m * 2 ^ (biased start.args.x.e + biased start.args.y.e)) t (start.args.z.m * 2 ^ (biased start.args.z.e + 8192)) (2 ^ 16384))
  by_parts s t e =
      e
      ∙ ap (to_bits binary64)
      (ap₂ (λ (i j : ℕ). sum binary64 s (p * 2 ^ i) t (both (start.args.z.m * 512) 0 * 2 ^ j) (2 ^ 8192)) ep-read ez-read
      ∙ ap (λ (i : ℕ). sum binary64 s (i * 2 ^ biased ep) t (both (start.args.z.m * 512) 0 * 2 ^ biased ez) (2 ^ 8192)) p-is
      ∙ fused-sum start.args.x.m start.args.y.m start.args.x.e start.args.y.e start.requires.0 start.requires.1 start.args.z.m (biased ep) (biased ez) (biased start.args.z.e) ep-is ez-is s t)

  by-swapped : (s t : Bool) {r : ℕ} → r ≡ to_bits binary64 (sum binary64 t (both (start.args.z.m * 512) 0 * 2 ^ biased (read ez)) s (p * 2 ^ biased (read ep)) (2 ^ 8192))
      → r ≡ to_bits binary64 (sum binary64 s (start.args.x.m * start.args.y.m * 2 ^ (biased start.args.x.e + biased start.args.y.e)) t (start.args.z.m * 2 ^ (biased start.args.z.e + 8192)) (2 ^ 16384))
  by-swapped s t e = by_parts s t (e ∙ ap (to_bits binary64) (sum_comm t s (both (start.args.z.m * 512) 0 * 2 ^ biased (read ez)) (p * 2 ^ biased (read ep)) (2 ^ 8192)))

pub fused_parts_spec : {M : Type 1} → statement M
fused_parts_spec =
    tie.close
    (tie.spec
    (λ c. search rules)
    (λ c. search rules)
    (λ c κs. tt)
    (λ c κs.
    let s = c.before.before.before.before.before.before.before in
    (handed s.args.x.e 1200 s.requires.0.small (omega arith), handed s.args.y.e 1200 s.requires.1.small (omega arith)))
    (λ c κs.
    let s = c.before.before.before.before.before.before.before.before.before in
    (handed s.args.z.e 4096 (omega (arith, s.requires.2.small)) (omega arith), omega arith))
    (λ c. search rules)
    (λ c κs.
    let l = c.before in
    (handed (ez l) 4096 (omega (arith, ez-mag l)) (omega arith), handed (ep l) 4096 (omega (arith, ep-mag l)) (omega arith)))
    (λ c κs.
    let l = c.before.before.before in
    (p-scaled l, z-scaled l, handed (ep l) 4000 (ep-mag l) (omega arith), handed (ez l) 4000 (ez-mag l) (omega arith), leb-true _ _ (sym c.not_above.ensures ∙ c.if-not_above.true)))
    (λ c.
    let l = c.before.before.before.before in
    let a = (start l).args in
    by_parts l (unlike a.x.neg a.y.neg) a.z.neg c.aligned_sum.ensures)
    (λ c κs.
    let l = c.before.before.before in
    let o = leb-false (biased (read (ez l))) (biased (read (ep l))) (sym c.not_above.ensures ∙ c.if-not_above.false) in
    (z-scaled l, p-scaled l, handed (ez l) 4000 (ez-mag l) (omega arith), handed (ep l) 4000 (ep-mag l) (omega arith), omega (arith, o)))
    (λ c.
    let l = c.before.before.before.before in
    let a = (start l).args in
    by-swapped l (unlike a.x.neg a.y.neg) a.z.neg c.aligned_sum-2.ensures))
