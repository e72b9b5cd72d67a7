-- `branch_of` meets its contract.
use borrow.Author.Rules.{rules}
use mathlib.Core.Path.{sym, ap}
use Rattle.lowering.specs.Labels.{role}
use Rattle.figures.specs.Shelf.{branch_of}
use Rattle.figures.proofs.counting.branch_of.Statement.{statement}
use Rattle.figures.proofs.counting.branch_of.Tie as tie

pub branch_of_spec : {M : Type 1} → statement M
unfolding role
branch_of_spec =
    tie.close
    (tie.spec
    (λ c. search rules) (λ c. search rules) (λ c. search rules) (λ c. search rules) (λ c. search rules) (λ c. search rules)
    (λ c. search rules) (λ c. search rules) (λ c. search rules) (λ c. search rules) (λ c. search rules) (λ c. search rules)
    (λ c. search rules) (λ c. search rules)
    (λ c. sym (ap (λ i. branch_of (role i)) c.in-Nop.is))
    (λ c. sym (ap (λ i. branch_of (role i)) c.in-Uni.is))
    (λ c. sym (ap (λ i. branch_of (role i)) c.in-Bi.is))
    (λ c. sym (ap (λ i. branch_of (role i)) c.in-Mov.is))
    (λ c. sym (ap (λ i. branch_of (role i)) c.in-Load.is))
    (λ c. sym (ap (λ i. branch_of (role i)) c.in-Save.is))
    (λ c. sym (ap (λ i. branch_of (role i)) c.in-LoadConst.is))
    (λ c. sym (ap (λ i. branch_of (role i)) c.in-Fused.is))
    (λ c. sym (ap (λ i. branch_of (role i)) c.in-IfElse.is))
    (λ c. sym (ap (λ i. branch_of (role i)) c.in-LoadMath.is))
    (λ c. sym (ap (λ i. branch_of (role i)) c.in-LoadConstMath.is))
    (λ c. sym (ap (λ i. branch_of (role i)) c.in-Label.is))
    (λ c. sym (ap (λ i. branch_of (role i)) c.in-Branch.is))
    (λ c. sym (ap (λ i. branch_of (role i)) c.in-BranchIf.is)))
