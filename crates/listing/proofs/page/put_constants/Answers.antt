-- The line of one constant more stands, and behind the last none is left.
use Rattle.std.proofs.Common.{arith}
use Rattle.text.proofs.Putting.{long, whole-fits, printing, less, none}
use Rattle.listing.proofs.Putting.{constants-on, constants-end}
use Rattle.listing.proofs.page.put_constants.Goals as goal

pub put_line-at-requires : goal.put_line-at-requires
put_line-at-requires c =
    let p = c.constant_line.ensures in
    let f = p.whole.fits in
    record { len_in_bounds = omega (arith, f); len_in_bounds_2 = whole-fits p }

pub loop-i-preserved : goal.loop-i-preserved
loop-i-preserved c =
    let l = c.loop-i in
    let p = c.constant_line.ensures in
    let q = printing p c.put_line-at.ensures in
    let n = p.whole.count in
    let f = p.whole.fits in
    let g = long q in
    let k = q.ends in
    (omega (arith, n, f, g, k), less l.invariant.1 (constants-on c.args.constants.now l.i (omega arith)) q)

pub returns : goal.returns
returns c = none c.loop-i.invariant.1 (constants-end c.args.constants.now c.loop-i.i (omega arith))
