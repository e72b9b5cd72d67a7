-- One word more is counted, and behind the last none is left.
use Rattle.std.proofs.Common.{arith, ◌∙◌}
use Rattle.compare_stores.specs.Differences.{one_where}
use Rattle.compare_stores.proofs.Searching.{counts-on, counts_end}
use Rattle.compare_stores.proofs.count_differences.Goals as goal

pub loop-i-preserved : goal.loop-i-preserved
loop-i-preserved c =
    let l = c.loop-i in
    let one = c.word_at.ensures in
    let other = c.word_at-in-loop-i.ensures in
    let d = c.differs-n.ensures in
    let low = d.1 in
    let near = l.invariant.0 in
    let all = l.invariant.1 in
    let r = d.0 ∙ (λ k. one_where (one k) (other k)) in
    let on = counts-on c.args.one.now c.args.other.now l.i c.loop-i-test.true in
    (omega (arith, low, near), omega (arith, r, on, all))

pub returns : goal.returns
returns c =
    let l = c.loop-i in
    let all = l.invariant.1 in
    let end = counts_end c.args.one.now c.args.other.now l.i (omega arith) in
    omega (arith, all, end)
