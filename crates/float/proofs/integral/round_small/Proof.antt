-- `float::integral::round_small` meets its contract: below 2 ^ 52 the exponent is not above 0 (`ToIntegral.antt`). Assumes nothing.
use mathlib.Core.Path.{◌≡◌, sym, ap, ◌∙◌, subst}
use mathlib.Core.Bool.{Bool}
use Prim.Native.Nat.{ℕ, ◌-◌, ◌*◌, ◌%◌, ◌^◌, ◌≤◌, ◌<◌}
use native.Mathlib.Nat.{div-le_self}
use native.Mathlib.Omega.{arith}
use lib.IntN.{ℤ}
use lib.Signed.{mag}
use lib.Ieee.{binary64, to_bits, round}
use borrow.Author.Rules.{rules}
use Rattle.float.specs.Integral.{whole}
use Rattle.float.specs.declared.integral.Direction.{Direction}
use Rattle.float.specs.Unpacked.{Unpacked}
use Rattle.float.specs.Biased.{biased}
use Rattle.float.proofs.ToIntegral.{small_word, whole_most, number_rounded}
use Rattle.float.proofs.Signed.{Is, is_biased, is_shift, read, read_same}
use Rattle.float.proofs.integral.round_small.Statement.{statement}
use Rattle.float.proofs.integral.round_small.Tie as tie

module _ (a : ℕ) (neg : Bool) (m : ℕ) (e : ℤ) (t : Unpacked a neg m e) (low : a % 2 ^ 63 < 1075 * 2 ^ 52) where
  pub same : read e ≡ e
  same = let h = t.small in read_same e (omega (arith, h))

  pub under : biased e ≤ 8192
  under = let h = t.place in omega (arith, h)

  pub point : (k : ℕ) → k ≡ 8192 - biased (read e) → Is e 0 k
  point k k-is =
      let h = t.small in
      let is : k ≡ 8192 - biased e = k-is ∙ ap (λ (z : ℤ). 8192 - biased z) same in
      is_shift e (biased e) 8192 0 k (is_biased e (omega (arith, h))) (omega (arith, under, is))

  pub whole_le : (d : Direction) (k : ℕ) → whole d neg m (2 ^ k) ≤ 2 ^ 53
  whole_le d k = let h = t.hi in omega (arith, h, whole_most d neg m (2 ^ k), div-le_self m (2 ^ k))

unpack-requires : tie.Need-unpack-p-requires
unpack-requires c κs = search rules

below-point-requires : tie.Need-below_point-requires
below-point-requires c κs =
    let u = c.unpack-p in
    let s = c.before.before in
    let r = sym (same s.args.a u.result.neg u.result.m u.result.e u.ensures s.requires.1) in
    (subst (λ (z : ℤ). mag z < 1200) r u.ensures.small, subst (λ (z : ℤ). biased z ≤ 8192) r (under s.args.a u.result.neg u.result.m u.result.e u.ensures s.requires.1))

whole-requires : tie.Need-whole-requires
whole-requires c κs =
    let u = c.unpack-p.ensures in
    (let h = u.lo in omega (arith, h), u.hi)

whole-word-requires : tie.Need-whole_word-requires
whole-word-requires c κs =
    let u = c.unpack-p in
    let s = c.before.before.before.before in
    omega (arith, c.whole.ensures, whole_le s.args.a u.result.neg u.result.m u.result.e u.ensures s.requires.1 s.args.d c.below_point.result)

returns : tie.Need-returns
returns c =
    let s = c.before.before.before.before.before in
    let u = c.unpack-p in
    let p = u.result in
    let k = c.below_point in
    c.whole_word.ensures
    ∙ ap (λ (n : ℕ). to_bits binary64 (round binary64 p.neg n 1)) c.whole.ensures
    ∙ sym (ap (to_bits binary64) (small_word s.args.d s.args.a p.neg p.m p.e k.result u.ensures.value
    (point s.args.a p.neg p.m p.e u.ensures s.requires.1 k.result k.ensures)))
    ∙ number_rounded s.args.d s.args.a (let h = s.requires.1 in omega (arith, h))

pub round_small_spec : {M : Type 1} → statement M
round_small_spec =
    tie.close
    (tie.spec
    unpack-requires
    below-point-requires
    whole-requires
    whole-word-requires
    returns)
