-- `barred_abs` meets its contract.
use borrow.Author.Rules.{rules}
use borrow.Author.Tests.{eq-eqb, ne_eqb}
use Rattle.refusals.proofs.barred.barred_abs.Statement.{statement}
use Rattle.refusals.proofs.barred.barred_abs.Tie as tie

pub barred_abs_spec : {M : Type 1} → statement M
barred_abs_spec =
    tie.close
    (tie.spec
    (λ c κs. search rules)
    (λ c. simp (c.if-stable.true, eq-eqb _ _ c.if-a-eq-RET.true, c.is_real_reg-x.ensures))
    (λ c. simp (c.if-stable.true, ne_eqb _ _ c.if-a-eq-RET.false))
    (λ c. simp c.if-stable.false))
