-- `float::fused::rounded_product` meets its contract. Assumes nothing.
use mathlib.Core.Path.{◌≡◌, sym, ap, ap₂, ◌∙◌, subst}
use mathlib.Core.Bool.{Bool}
use Prim.Native.Nat.{ℕ, ◌+◌, ◌*◌, ◌^◌, ◌<◌}
use native.Mathlib.Nat.{mul-pos}
use native.Mathlib.Omega.{arith}
use lib.IntN.{ℤ}
use lib.Signed.{mag}
use lib.Pow.{pow_pos}
use lib.Ieee.{binary64, to_bits, round, unlike, up, down}
use lib.Ieee.Scale.{round_same}
use Rattle.float.specs.Near.{both}
use Rattle.float.specs.Biased.{biased}
use Rattle.float.specs.Unpacked.{Normalized}
use Rattle.float.proofs.Signed.{read, same, handed, range_of, mag_of, is_biased}
use Rattle.float.proofs.RoundWord.{round_pow, shifts}
use Rattle.float.proofs.fused.rounded_product.Statement.{statement}
use Rattle.float.proofs.fused.rounded_product.Tie as tie

-- the exponents' sum
module _ (m n : ℕ) (x y g : ℤ) (X : Normalized m x) (Y : Normalized n y) (is : biased g + 8192 ≡ biased (read x) + biased (read y)) where
  sum_is : biased g + 8192 ≡ biased x + biased y
  sum_is = is ∙ ap₂ (λ (a b : ℤ). biased a + biased b) (same x 1200 X.small (omega arith)) (same y 1200 Y.small (omega arith))

  pub sum-mag : mag g < 4000
  sum-mag =
      let a = range_of x 1200 X.small (omega arith) in
      let b = range_of y 1200 Y.small (omega arith) in
      mag_of g 4000 (omega arith) (omega (arith, sum_is, a.0, b.0)) (omega (arith, sum_is, a.1, b.1))

  pub positive : 0 < m * n
  positive = mul-pos (omega (arith, X.lo)) (omega (arith, Y.lo))

  pub rounded : (s : Bool) (p : ℕ) → p ≡ m * n → round binary64 s (p * up (read g)) (down (read g)) ≡ round binary64 s (m * n * 2 ^ (biased x + biased y)) (2 ^ 16384)
  rounded s p e =
      let v = m * n in
      ap₂ (λ (z : ℤ) (k : ℕ). round binary64 s (k * up z) (down z)) (same g 4000 sum-mag (omega arith)) e
      ∙ round_pow s v g (biased g) 8192 (is_biased g (omega (arith, sum-mag)))
      ∙ round_same binary64 s (v * 2 ^ biased g) (2 ^ 8192) (v * 2 ^ (biased x + biased y)) (2 ^ 16384) (pow_pos 8192) (pow_pos 16384)
      (shifts v (biased g) 16384 ∙ ap (λ (i : ℕ). v * 2 ^ i) {x = biased g + 16384} {y = biased x + biased y + 8192} (omega (arith, sum_is)) ∙ sym (shifts v (biased x + biased y) 8192))

pub rounded_product_spec : {M : Type 1} → statement M
rounded_product_spec =
    tie.close
    (tie.spec
    (λ c κs. tt)
    (λ c κs.
    let s = c.before.before.before.before.before in
    (handed s.args.x.e 4096 (omega (arith, s.requires.0.small)) (omega arith), handed s.args.y.e 4096 (omega (arith, s.requires.1.small)) (omega arith)))
    (λ c κs.
    let s = c.before.before.before.before.before.before in
    let x = s.args.x in
    let y = s.args.y in
    (subst (λ (p : ℕ). 0 < p) (sym c.product.ensures) (positive x.m y.m x.e y.e c.sum.result s.requires.0 s.requires.1 c.sum.ensures.0), handed c.sum.result 4000 (sum-mag x.m y.m x.e y.e c.sum.result s.requires.0 s.requires.1 c.sum.ensures.0) (omega arith)))
    (λ c.
    let s = c.before.before.before.before.before.before.before in
    let x = s.args.x in
    let y = s.args.y in
    let p = c.product in
    let g = c.sum in
    c.round_wide.ensures ∙ ap (to_bits binary64) (rounded x.m y.m x.e y.e g.result s.requires.0 s.requires.1 g.ensures.0 (unlike x.neg y.neg) (both p.result.hi p.result.lo) p.ensures)))
