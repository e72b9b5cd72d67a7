-- `calls_of` meets its contract.
use borrow.Author.Rules.{rules}
use borrow.Author.Tests.{eq-eqb, ne_eqb}
use Rattle.figures.proofs.counting.calls_of.Statement.{statement}
use Rattle.figures.proofs.counting.calls_of.Tie as tie

pub calls_of_spec : {M : Type 1} → statement M
calls_of_spec = tie.close (tie.spec (λ c. simp (eq-eqb _ _ c.if-kind-eq-CALL.true)) (λ c. simp (ne_eqb _ _ c.if-kind-eq-CALL.false)))
