-- The line of one place more stands, or none, and behind the last none is left.
use Rattle.std.proofs.Common.{ap, cond, [], arith}
use Rattle.assembly.specs.Lines.{real_line}
use Rattle.text.proofs.Putting.{long, line-put, renamed, less, none}
use Rattle.sheet_text.proofs.Turns.{reals-on, reals-end}
use Rattle.sheet_text.proofs.printing.put_reals.Goals as goal

pub loop-i-preserved : goal.loop-i-preserved
loop-i-preserved c =
    let l = c.loop-i in
    let p = c.real_or_none-line.ensures in
    let more = c.loop-i-test.true in
    let f = p.whole.fits in
    let n = p.whole.count in
    let near = l.invariant.0 in
    let room = l.invariant.1 in
    let q = line-put p (omega (arith, f, near, room, more)) c.put_line-at.ensures in
    let g = long q in
    let k = q.ends in (
      omega (arith, n, f, k, near),
      omega (arith, g, room),
      less l.invariant.2 (reals-on c.args.places l.i more) (renamed (ap (λ b. cond b (real_line l.i) []) c.bit_at-real.ensures) q),
    )

pub returns : goal.returns
returns c =
    let l = c.loop-i in
    let near = l.invariant.0 in
    (none l.invariant.2 (reals-end c.args.places l.i (omega arith)), omega (arith, near))
