-- An answer of another length, points that are no words, and the entry's answer.
use Rattle.std.proofs.Common.{arith}
use borrow.Author.Tests.{ne_eqb}
use Rattle.nearest.specs.Answer.{as_values}
use Rattle.nearest_call.specs.Call.{nearest_call}
use Rattle.nearest_call.proofs.Calls.{wrong-points, given}
use Rattle.nearest_call.proofs.tulipcricket_nearest_unguarded.Goals as goal

pub returns-then-answer-ne24 : goal.returns-then-answer-ne24
unfolding nearest_call
returns-then-answer-ne24 c = simp (ne_eqb _ _ c.if-answer-ne24.true)

pub returns-then-points-ne0 : goal.returns-then-points-ne0
returns-then-points-ne0 c =
    let a = c.args in
    wrong-points a.re a.im a.points.now a.answer.now c.if-answer-ne24.false (λ h. omega arith) c.save.ensures

pub returns : goal.returns
returns c =
    let a = c.args in
    given a.re a.im a.points.now a.answer.now c.if-answer-ne24.false (as_values c.nearest_words-found.result)
    (omega arith) c.nearest_words-found.ensures c.number_of.ensures c.numbers_of-told.ensures c.save-2.ensures
