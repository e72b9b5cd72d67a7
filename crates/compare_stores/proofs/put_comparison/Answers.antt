-- The lines, and where more words differ the line that says how many.
use Rattle.std.proofs.Common.{arith}
use Rattle.text.proofs.Putting.{◌▹◌, renamed, long, line-put}
use Rattle.compare_stores.proofs.Searching.{no_more, some_more}
use Rattle.compare_stores.proofs.put_comparison.Goals as goal

pub returns-then-n-most : goal.returns-then-n-most
returns-then-n-most c =
    let a = c.args in
    renamed (no_more a.one.now a.other.now a.most c.count_differences-n.ensures c.if-n-most.true) c.put_lines-at.ensures.0

pub returns : goal.returns
returns c =
    let a = c.args in
    let d = c.put_lines-at.ensures in
    let low = d.1 in
    let g = long d.0 in
    let p = c.more_line.ensures in
    let f = p.whole.fits in
    let q = line-put p (omega (arith, low, g, f)) c.put_line.ensures in
    renamed (some_more a.one.now a.other.now a.most c.count_differences-n.ensures c.if-n-most.false) (d.0 ▹ q)
