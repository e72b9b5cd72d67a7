-- `tulipcricket_shelf_unguarded` meets its contract.
use borrow.Author.Rules.{rules}
use borrow.Author.Tests.{ne_eqb}
use Rattle.shelf_call.specs.Call.{shelf_call}
use Rattle.shelf_call.proofs.Calls.{given}
use Rattle.shelf_call.proofs.tulipcricket_shelf_unguarded.Statement.{statement}
use Rattle.shelf_call.proofs.tulipcricket_shelf_unguarded.Tie as tie

returns : tie.Need-returns-then-answer-ne40
unfolding shelf_call
returns c = simp (ne_eqb _ _ c.if-answer-ne40.true)

pub tulipcricket_shelf_unguarded_spec : {M : Type 1} → statement M
tulipcricket_shelf_unguarded_spec =
    tie.close
    (tie.spec
    returns
    (λ c κs. search rules) (λ c. search rules) (λ c. search rules) (λ c κs. search rules) (λ c. search rules) (λ c. search rules)
    (λ c. let a = c.args in given a.sheet.now a.answer.now c.shelf-f.result c.if-answer-ne40.false c.shelf-f.ensures c.save.ensures))
