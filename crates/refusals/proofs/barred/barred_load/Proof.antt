-- `barred_load` meets its contract.
use borrow.Author.Rules.{rules}
use Rattle.refusals.proofs.barred.barred_load.Statement.{statement}
use Rattle.refusals.proofs.barred.barred_load.Tie as tie

pub barred_load_spec : {M : Type 1} → statement M
barred_load_spec =
    tie.close
    (tie.spec
    (λ c. search rules) (λ c. search rules) (λ c. search rules) (λ c. search rules) (λ c κs. search rules)
    (λ c. simp c.in-Plus.is)
    (λ c. simp c.in-Minus.is)
    (λ c. simp c.in-Times.is)
    (λ c. simp c.in-Divide.is c.barred_divide.ensures))
