-- `interface::tulipcricket_lower_unguarded` meets its contract: each refusal by its tests, and the lowering by one law.
use borrow.Author.Rules.{rules}
use borrow.Author.Tests.{ne_eqb}
use Rattle.interface.specs.Calls.{lower_call}
use Rattle.interface.proofs.Lowering.{wrong-constants, wrong-origins, lowered}
use Rattle.interface.proofs.tulipcricket_lower_unguarded.Statement.{statement}
use Rattle.interface.proofs.tulipcricket_lower_unguarded.Tie as tie

pub tulipcricket_lower_unguarded_spec : {M : Type 1} → statement M
unfolding lower_call
tulipcricket_lower_unguarded_spec =
    tie.close
    (tie.spec
    (λ c. simp (ne_eqb _ _ c.if-answer-ne260.true))
    (λ c κs. search rules) (λ c κs. search rules) (λ c. search rules)
    (λ c.
    let a = c.args in
    wrong-constants a.sheet.now a.listing.now a.constants.now a.origins.now a.answer.now c.if-answer-ne260.false c.if-constants-ne2048.true
    c.wrong_setup.ensures c.put_answer.ensures)
    (λ c κs. search rules) (λ c κs. search rules) (λ c. search rules)
    (λ c.
    let a = c.args in
    wrong-origins a.sheet.now a.listing.now a.constants.now a.origins.now a.answer.now c.if-answer-ne260.false c.if-constants-ne2048.false c.if-origins-ne512.true
    c.wrong_setup-then-origins-ne512.ensures c.put_answer-then-origins-ne512.ensures)
    (λ c κs. (c.if-constants-ne2048.false, c.if-origins-ne512.false))
    (λ c κs. search rules) (λ c. search rules) (λ c. search rules) (λ c. search rules) (λ c. search rules) (λ c. search rules)
    (λ c.
    let a = c.args in
    let p = c.lower_words-a.ensures in
    lowered a.sheet.now a.listing.now a.constants.now a.origins.now a.answer.now c.if-answer-ne260.false c.if-constants-ne2048.false c.if-origins-ne512.false
    p.0 p.1 p.2 p.3 c.put_answer-2.ensures))
