-- `pages::call::tulipcricket_pages_unguarded` meets its contract.
use borrow.Author.Rules.{rules}
use borrow.Author.Tests.{ne_eqb}
use Rattle.pages.specs.Call.{pages_call}
use Rattle.pages.proofs.Calls.{called}
use Rattle.pages.proofs.call.tulipcricket_pages_unguarded.Statement.{statement}
use Rattle.pages.proofs.call.tulipcricket_pages_unguarded.Tie as tie

pub tulipcricket_pages_unguarded_spec : {M : Type 1} → statement M
unfolding pages_call
tulipcricket_pages_unguarded_spec =
    tie.close
    (tie.spec
    (λ c. simp (ne_eqb _ _ c.if-answer-ne24.true))
    (λ c κs. search rules) (λ c. search rules) (λ c. search rules) (λ c κs. search rules) (λ c. search rules) (λ c. search rules) (λ c. search rules)
    (λ c.
    let a = c.args in
    called a.listing.now a.constants.now a.pages.now a.answer.now c.part_of-a.result c.if-answer-ne24.false
    c.part_of-a.ensures c.save.ensures))
