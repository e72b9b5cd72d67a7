-- `work::kinds::load_const` meets its contract.
use borrow.Author.Rules.{rules}
use mathlib.Core.Path.{◌∙◌}
use Rattle.player_work.proofs.work_kinds.load_const.Statement.{statement}
use Rattle.player_work.proofs.work_kinds.load_const.Tie as tie

pub load_const_spec : {M : Type 1} → statement M
load_const_spec =
    tie.close
    (tie.spec
    (λ c κs. search rules) (λ c κs. search rules) (λ c. search rules)
    (λ c. c.put_register.ensures ∙ simp c.get-v.ensures))
