-- A word that differs is the next, one that is the same is passed over, and behind the last there is none.
use Rattle.std.proofs.Common.{arith, sym, ◌∙◌}
use Rattle.compare_stores.proofs.Searching.{goes_on, stops, ends}
use Rattle.compare_stores.proofs.next_difference.Goals as goal

pub returns-then-word_at : goal.returns-then-word_at
returns-then-word_at c =
    let a = c.args in
    let l = c.loop-i in
    let p = c.word_at.ensures in
    let q = c.word_at-in-loop-i.ensures in
    (sym (stops a.one.now a.other.now l.i c.loop-i-test.true (λ e. c.if-word_at.true (p ∙ e ∙ sym q))) ∙ l.invariant, c.loop-i-test.true)

pub loop-i-preserved : goal.loop-i-preserved
loop-i-preserved c =
    let a = c.args in
    let l = c.loop-i in
    let p = c.word_at.ensures in
    let q = c.word_at-in-loop-i.ensures in
    sym (goes_on a.one.now a.other.now l.i c.loop-i-test.true (sym p ∙ c.if-word_at.false ∙ q)) ∙ l.invariant

pub returns : goal.returns
returns c =
    let a = c.args in
    let l = c.loop-i in
    let h = l.invariant in
    let e = ends a.one.now a.other.now l.i (omega arith) in
    omega (arith, h, e)
