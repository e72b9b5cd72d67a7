-- `work::kinds::save` meets its contract.
use borrow.Author.Rules.{rules}
use mathlib.Core.Path.{◌∙◌}
use Rattle.player_work.proofs.work_kinds.save.Statement.{statement}
use Rattle.player_work.proofs.work_kinds.save.Tie as tie

pub save_spec : {M : Type 1} → statement M
save_spec =
    tie.close
    (tie.spec
    (λ c κs. search rules) (λ c κs. search rules) (λ c κs. search rules) (λ c. search rules)
    (λ c. c.put.ensures ∙ simp (c.get_register-v.ensures, c.place-i.ensures)))
