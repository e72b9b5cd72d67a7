-- `put_lines` meets its contract where no word differs.
use Rattle.std.proofs.Common.{◌≡◌, length, arith}
use Rattle.text.specs.Text.{ascii}
use Rattle.text.proofs.Putting.{renamed, long, putting, over}
use Rattle.compare_stores.specs.Differences.{difference_lines}
use Rattle.compare_stores.proofs.Searching.{same}
use Rattle.compare_stores.proofs.put_lines.Goals as goal

pub returns-then-n-eq0 : goal.returns-then-n-eq0
unfolding ascii
returns-then-n-eq0 c =
    let a = c.args in
    let d = c.put_differences-n.ensures.0 in
    let e : length (difference_lines a.one.now a.other.now a.most 0) ≡ 0 = omega (arith, d.ends, c.if-n-eq0.true) in
    let n = long d in
    let q = putting (omega (arith, n, e)) c.put.ensures in
    let k = q.ends in
    (renamed (same (difference_lines a.one.now a.other.now a.most 0) e) (over d e q), omega (arith, k))
