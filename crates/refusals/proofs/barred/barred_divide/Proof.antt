-- `barred_divide` meets its contract.
use borrow.Author.Tests.{le-ltb, lt-ltb}
use Rattle.refusals.proofs.barred.barred_divide.Statement.{statement}
use Rattle.refusals.proofs.barred.barred_divide.Tie as tie

pub barred_divide_spec : {M : Type 1} → statement M
barred_divide_spec =
    tie.close
    (tie.spec
    (λ c. simp (c.if-stable.true, c.if-real.true))
    (λ c. simp (c.if-stable.true, c.if-real.false, lt-ltb _ _ c.if-a-lt30.true))
    (λ c. simp (c.if-stable.true, c.if-real.false, le-ltb _ _ c.if-a-lt30.false))
    (λ c. simp c.if-stable.false))
