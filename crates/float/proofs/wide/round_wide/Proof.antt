-- `float::wide::round_wide` meets its contract. Assumes nothing.
use mathlib.Core.Path.{◌≡◌, ap, ◌∙◌}
use Prim.Native.Nat.{◌+◌, ◌*◌, ◌<◌}
use native.Mathlib.Omega.{arith}
use lib.IntN.{ℤ, negsuc}
use lib.Signed.{mag}
use lib.Ieee.{binary64, to_bits, round, up, down}
use Rattle.float.specs.Near.{both}
use Rattle.float.specs.Biased.{biased}
use Rattle.float.proofs.Signed.{read, same, handed, range_of, mag_of}
use Rattle.float.proofs.RoundWide.{moved_up}
use Rattle.float.proofs.wide.round_wide.Statement.{statement}
use Rattle.float.proofs.wide.round_wide.Tie as tie

-- the exponent, moved down by a word
module _ (e : ℤ) (small : mag e < 4000) (f : ℤ) (is : biased f + 8192 ≡ biased (read e) + biased (negsuc 63)) where
  pub lower : biased f + 64 ≡ biased e
  lower = omega (arith, is, ap biased (same e 4000 small (omega arith)))

  pub lower-mag : mag f < 4096
  lower-mag = let r = range_of e 4000 small (omega arith) in mag_of f 4096 (omega arith) (omega (arith, lower, r.0)) (omega (arith, lower, r.1))

sum-requires : tie.Need-sum-requires
sum-requires c κs = let s = c.before.before in (handed s.args.e 4096 (omega (arith, s.requires.1)) (omega arith), omega arith)

round-upper-requires : tie.Need-round_upper-requires
round-upper-requires c κs =
    let s = c.before.before.before in
    (omega (arith, s.requires.0, c.if-v-eq0.true), handed c.sum.result 4096 (lower-mag s.args.e s.requires.1 c.sum.result c.sum.ensures.0) (omega arith))

returns : tie.Need-returns-then-v-eq0
returns c =
    let s = c.before.before.before.before in
    let v = s.args.v in
    let e = s.args.e in
    let f = c.sum.result in
    let is = c.sum.ensures.0 in
    let m = lower-mag e s.requires.1 f is in
    c.round_upper.ensures
    ∙ ap (λ (z : ℤ). to_bits binary64 (round binary64 s.args.neg (both v.lo 0 * up z) (down z))) (same f 4096 m (omega arith))
    ∙ ap (to_bits binary64) (moved_up s.args.neg v.hi v.lo e f c.if-v-eq0.true (omega (arith, s.requires.1)) (omega (arith, m)) (lower e s.requires.1 f is))

round-upper-requires-2 : tie.Need-round_upper-requires-2
round-upper-requires-2 c κs =
    let s = c.before.before in
    (omega (arith, c.if-v-eq0.false), handed s.args.e 4096 (omega (arith, s.requires.1)) (omega arith))

returns-2 : tie.Need-returns
returns-2 c =
    let s = c.before.before.before in
    let v = s.args.v in
    c.round_upper-2.ensures ∙ ap (λ (z : ℤ). to_bits binary64 (round binary64 s.args.neg (both v.hi v.lo * up z) (down z))) (same s.args.e 4000 s.requires.1 (omega arith))

pub round_wide_spec : {M : Type 1} → statement M
round_wide_spec = tie.close (tie.spec sum-requires round-upper-requires returns round-upper-requires-2 returns-2)
