-- The line of one word more stands, and behind the last none is left.
use Rattle.std.proofs.Common.{arith, ap}
use Rattle.reports.specs.Lines.{word_line}
use Rattle.text.proofs.Putting.{long, line-put, renamed, less, none}
use Rattle.show_store.proofs.Showing.{words-on, words-end}
use Rattle.show_store.proofs.put_words.Goals as goal

pub loop-i-preserved : goal.loop-i-preserved
loop-i-preserved c =
    let l = c.loop-i in
    let p = c.word_line-line.ensures in
    let f = p.whole.fits in
    let n = p.whole.count in
    let room = l.invariant.0 in
    let more = c.loop-i-test.true in
    let q = line-put p (omega (arith, f, room, more)) c.put_line-at.ensures in
    let g = long q in
    let k = q.ends in (
      omega (arith, n, f, g, k, room, more),
      less l.invariant.1 (words-on c.args.store.now l.i more) (renamed (ap (word_line l.i) c.word_at.ensures) q),
    )

pub returns : goal.returns
returns c = none c.loop-i.invariant.1 (words-end c.args.store.now c.loop-i.i (omega arith))
