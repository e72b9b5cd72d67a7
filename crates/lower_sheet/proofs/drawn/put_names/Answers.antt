-- The name of one register more stands, or none, and behind the last none is left.
use Rattle.std.proofs.Common.{arith}
use Rattle.text.proofs.Putting.{long, line-put, less, none}
use Rattle.lower_sheet.proofs.Telling.{names-on, names-end}
use Rattle.lower_sheet.proofs.drawn.put_names.Goals as goal

pub loop-i-preserved : goal.loop-i-preserved
loop-i-preserved c =
    let l = c.loop-i in
    let p = c.name_or_none-name.ensures in
    let more = c.loop-i-test.true in
    let f = p.whole.fits in
    let n = p.whole.count in
    let near = l.invariant.0 in
    let room = l.invariant.1 in
    let q = line-put p (omega (arith, f, near, room, more)) c.put_line-at.ensures in
    let g = long q in
    let k = q.ends in
    (omega (arith, n, f, k, near), omega (arith, g, room), less l.invariant.2 (names-on c.args.marks.now l.i more) q)

pub returns : goal.returns
returns c =
    let l = c.loop-i in
    let near = l.invariant.0 in
    (none l.invariant.2 (names-end c.args.marks.now l.i (omega arith)), omega (arith, near))
