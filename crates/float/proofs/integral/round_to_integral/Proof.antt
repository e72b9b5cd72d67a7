-- `float::integral::round_to_integral` meets its contract (`ToIntegral.antt`). Assumes nothing.
use mathlib.Core.Path.{◌≡◌, sym, ap, ◌∙◌}
use mathlib.Core.Logic.{inl, inr}
use Prim.Native.Nat.{ℕ, ◌*◌, ◌%◌, ◌^◌, ◌≤◌, ◌<◌}
use native.Mathlib.Nat.{eq-or-lt_of_le}
use native.Mathlib.Omega.{arith}
use lib.Ieee.{binary64, is_nan, of_bits, to_bits}
use borrow.Author.Rules.{rules}
use Rattle.float.specs.Integral.{round_to_integral}
use Rattle.float.specs.declared.integral.Direction.{Direction}
use Rattle.float.proofs.Nan.{above_nan}
use Rattle.float.proofs.ToIntegral.{large_word, infinite_word, zero_word, nan_marked, number_rounded}
use Rattle.float.proofs.integral.round_to_integral.Statement.{statement}
use Rattle.float.proofs.integral.round_to_integral.Tie as tie

abs-requires : tie.Need-abs-size-requires
abs-requires c κs = search rules

returns : tie.Need-returns-then-size-gt-INFINITY
unfolding is_nan
returns c =
    let a = c.args in
    nan_marked a.d a.a (ap is_nan (above_nan a.a (omega (arith, c.abs-size.ensures, c.if-size-gt-INFINITY.true))))

large : (d : Direction) (a : ℕ) → a < 2 ^ 64 → 1075 * 2 ^ 52 ≤ a % 2 ^ 63 → a % 2 ^ 63 ≤ 2047 * 2 ^ 52 → to_bits binary64 (round_to_integral d binary64 (of_bits binary64 a)) ≡ a
large d a h lo hi = elim (eq-or-lt_of_le hi) [
  | inl e ↦ infinite_word d a h e
  | inr l ↦ large_word d a h lo l
]

returns-2 : tie.Need-returns-then-size-ge4841369599423283200
returns-2 c =
    let s = c.before.before.before in
    let e = c.abs-size.ensures in
    let h : s.args.a % 2 ^ 63 ≤ 2047 * 2 ^ 52 = omega (arith, e, c.if-size-gt-INFINITY.false) in
    sym (large s.args.d s.args.a s.ranges.a.fits (omega (arith, e, c.if-size-ge4841369599423283200.true)) h) ∙ number_rounded s.args.d s.args.a h

returns-3 : tie.Need-returns-then-size-eq0
returns-3 c =
    let s = c.before.before.before.before in
    let e = c.abs-size.ensures in
    let z : s.args.a % 2 ^ 63 ≡ 0 = omega (arith, e, c.if-size-eq0.true) in
    sym (zero_word s.args.d s.args.a s.ranges.a.fits z) ∙ number_rounded s.args.d s.args.a (omega (arith, z))

round-small-requires : tie.Need-round_small-requires
round-small-requires c κs =
    let e = c.abs-size.ensures in
    (omega (arith, e, c.if-size-eq0.false), omega (arith, e, c.if-size-ge4841369599423283200.false))

returns-4 : tie.Need-returns
returns-4 c = c.round_small.ensures

pub round_to_integral_spec : {M : Type 1} → statement M
round_to_integral_spec = tie.close (tie.spec abs-requires returns returns-2 returns-3 round-small-requires returns-4)
