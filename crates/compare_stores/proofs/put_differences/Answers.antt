-- The line of the next word that differs stands; where none does, or no line is left, the text stands.
use Rattle.std.proofs.Common.{◌≡◌, refl, ap, ◌∙◌, suc, ◌-◌, ◌+◌, arith}
use Rattle.reports.specs.Lines.{difference_line}
use Rattle.text.proofs.Putting.{less, none, long, renamed, line-put}
use Rattle.compare_stores.specs.Differences.{difference_lines}
use Rattle.compare_stores.proofs.Searching.{line_on, line-end, lines_end}
use Rattle.compare_stores.proofs.put_differences.Goals as goal

pub returns-in_default : goal.returns-in_default
returns-in_default c =
    let a = c.args in
    let l = c.loop in
    let low = l.invariant.1 in
    (none l.invariant.2 (line-end a.one.now a.other.now l.from refl (a.most - l.counter) c.in_default.ensures), omega (arith, low))

pub loop-preserved : goal.loop-preserved
loop-preserved c =
    let a = c.args in
    let l = c.loop in
    let i = c.in-Some.i in
    let found = c.in-Some.ensures in
    let one = c.word_at.ensures in
    let other = c.word_at-in-loop.ensures in
    let p = c.difference_line-line.ensures in
    let f = p.whole.fits in
    let n = p.whole.count in
    let room = l.invariant.0 in
    let more = c.loop-test.true in
    let q = line-put p (omega (arith, f, room, more)) c.put_line-at.ensures in
    let q' = renamed (λ k. difference_line i (one k) (other k)) q in
    let g = long q in
    let k = q.ends in
    let e : a.most - l.counter ≡ suc (a.most - (l.counter + 1)) = omega (arith, more) in
    let on = ap (λ n. difference_lines a.one.now a.other.now n l.from) e
    ∙ line_on a.one.now a.other.now l.from found.0 (a.most - (l.counter + 1)) found.1 in
    let low = l.invariant.1 in
    (omega (arith, n, f, g, k, room, more), omega (arith, n, f, k, low, more), less l.invariant.2 on q')

pub returns : goal.returns
returns c =
    let a = c.args in
    let l = c.loop in
    let e : a.most - l.counter ≡ 0 = omega arith in
    let low = l.invariant.1 in
    (none l.invariant.2 (ap (λ n. difference_lines a.one.now a.other.now n l.from) e ∙ lines_end a.one.now a.other.now l.from), omega (arith, low))
