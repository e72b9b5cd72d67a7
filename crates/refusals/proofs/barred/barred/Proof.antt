-- `barred` meets its contract.
use borrow.Author.Rules.{rules}
use mathlib.Core.Path.{◌∙◌}
use Rattle.lowering.specs.Lower.{barred}
use Rattle.refusals.proofs.barred.barred.Statement.{statement}
use Rattle.refusals.proofs.barred.barred.Tie as tie

pub barred_spec : {M : Type 1} → statement M
unfolding barred
barred_spec =
    tie.close
    (tie.spec
    (λ c. search rules) (λ c. search rules) (λ c κs. search rules) (λ c. search rules) (λ c κs. search rules) (λ c. search rules)
    (λ c. search rules) (λ c. search rules) (λ c. search rules) (λ c. search rules) (λ c. search rules) (λ c. search rules)
    (λ c κs. search rules) (λ c κs. search rules) (λ c. search rules) (λ c. search rules) (λ c. search rules) (λ c. search rules)
    (λ c. simp c.in-Nop.is)
    (λ c. simp c.in-Uni.is c.barred_uni.ensures)
    (λ c. simp c.in-Bi.is c.barred_bin.ensures)
    (λ c. simp c.in-Mov.is)
    (λ c. simp c.in-Load.is)
    (λ c. simp c.in-Save.is)
    (λ c. simp c.in-LoadConst.is)
    (λ c. simp c.in-Fused.is)
    (λ c. simp c.in-IfElse.is)
    (λ c. simp c.in-LoadMath.is (c.barred_load.ensures ∙ simp c.is_real_loc-x.ensures))
    (λ c. simp c.in-LoadConstMath.is)
    (λ c. simp c.in-Label.is)
    (λ c. simp c.in-Branch.is)
    (λ c. simp c.in-BranchIf.is))
