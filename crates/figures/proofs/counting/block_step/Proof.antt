-- `block_step` meets its contract.
use borrow.Author.Rules.{rules}
use borrow.Author.Tests.{eq-eqb, ne_eqb, lt-ltb, le-ltb}
use Rattle.figures.proofs.counting.block_step.Statement.{statement}
use Rattle.figures.proofs.counting.block_step.Tie as tie

pub block_step_spec : {M : Type 1} → statement M
block_step_spec =
    tie.close
    (tie.spec
    (λ c. search rules)
    (λ c. simp (c.in-Before.is, eq-eqb _ _ c.if-kind-eq-LABEL.true, eq-eqb _ _ c.if-label-eq1.true))
    (λ c. search rules)
    (λ c. simp (c.in-Inside.is, lt-ltb _ _ c.if-kind-lt-LABEL.true))
    (λ c. search rules)
    (λ c. simp (c.in-Before.is, eq-eqb _ _ c.if-kind-eq-LABEL.true, ne_eqb _ _ c.if-label-eq1.false))
    (λ c. simp (c.in-Before.is, ne_eqb _ _ c.if-kind-eq-LABEL.false))
    (λ c. simp (c.in-Inside.is, le-ltb _ _ c.if-kind-lt-LABEL.false))
    (λ c. simp c.in-Behind.is))
