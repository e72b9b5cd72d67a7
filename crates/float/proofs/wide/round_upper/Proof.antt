-- `float::wide::round_upper` meets its contract (`RoundWide.antt`). Assumes nothing.
use mathlib.Core.Path.{◌≡◌, ap, ◌∙◌}
use Prim.Native.Nat.{ℕ, ◌+◌, ◌*◌, ◌^◌, ◌<◌}
use native.Mathlib.Omega.{arith}
use lib.IntN.{ℤ, pos}
use lib.Ieee.{binary64, to_bits, round, up, down}
use Rattle.float.specs.Biased.{biased}
use Rattle.float.proofs.Signed.{read, same, handed}
use Rattle.float.proofs.RoundWide.{zeros-le, down_by, down_lt, word-lo, word-hi, upper-rounded}
use Rattle.float.proofs.wide.round_upper.Statement.{statement}
use Rattle.float.proofs.wide.round_upper.Tie as tie

hi-fits : (c : tie.Start) → c.args.v.hi < 2 ^ 64
hi-fits c = omega (arith, c.well_formed)

lo-fits : (c : tie.Start) → c.args.v.lo < 2 ^ 64
lo-fits c = omega (arith, c.well_formed)

sub-d : tie.Need-overflow_sub-d
sub-d c = let s = c.before in zeros-le s.args.v.hi s.args.v.lo s.requires.0 (hi-fits s) (lo-fits s)

jam-wide-requires : tie.Need-jam_wide-w-requires
jam-wide-requires c κs = let h = c.requires.0 in omega (arith, h)

-- how far v is moved down, and that as a signed number
module _ (s : tie.Start) where
  abbrev by : ℕ
  by = down_by s.args.v.hi s.args.v.lo s.requires.0 (hi-fits s) (lo-fits s)

  by-lt : by < 4096
  by-lt = down_lt s.args.v.hi s.args.v.lo s.requires.0 (hi-fits s) (lo-fits s)

  moved : (f : ℤ) → biased f + 8192 ≡ biased (read s.args.e) + biased (read (pos by)) → biased f ≡ biased s.args.e + by
  moved f h = omega (arith, h, ap biased (same s.args.e 4096 s.requires.1 (omega arith)), ap biased (same (pos by) 4096 by-lt (omega arith)))

cast-sum : tie.Need-overflow_cast-d
cast-sum c = record { sfits = omega (arith, by-lt c.before.before) }

sum-requires : tie.Need-sum-requires
sum-requires c κs =
    let s = c.before.before in
    (handed s.args.e 4096 s.requires.1 (omega arith), handed (pos (by s)) 4096 (by-lt s) (omega arith))

pack-requires : tie.Need-pack-requires
pack-requires c κs =
    let s = c.before.before.before in
    let v = s.args.v in
    let w = c.jam_wide-w.result in
    let n = c.jam_wide-w.ensures in (
      word-lo v.hi v.lo s.requires.0 (hi-fits s) (lo-fits s) w.hi w.lo n,
      word-hi v.hi v.lo s.requires.0 (hi-fits s) (lo-fits s) w.hi w.lo n,
      handed c.sum.result 8192 c.sum.ensures.1 (omega arith),
    )

returns : tie.Need-returns
returns c =
    let s = c.before.before.before.before in
    let v = s.args.v in
    let w = c.jam_wide-w.result in
    let n = c.jam_wide-w.ensures in
    let f = c.sum.result in
    let m = c.sum.ensures.1 in
    c.pack.ensures
    ∙ ap (λ (z : ℤ). to_bits binary64 (round binary64 s.args.neg (w.lo * up z) (down z))) (same f 8192 m (omega arith))
    ∙ ap (to_bits binary64) (upper-rounded v.hi v.lo s.requires.0 (hi-fits s) (lo-fits s) w.hi w.lo n s.args.neg s.args.e f (omega (arith, s.requires.1)) m (moved s f c.sum.ensures.0))

pub round_upper_spec : {M : Type 1} → statement M
round_upper_spec = tie.close (tie.spec sub-d jam-wide-requires cast-sum sum-requires pack-requires returns)
