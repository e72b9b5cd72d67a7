-- `work::kinds::mov` meets its contract.
use borrow.Author.Rules.{rules}
use mathlib.Core.Path.{◌∙◌}
use Rattle.player_work.proofs.work_kinds.mov.Statement.{statement}
use Rattle.player_work.proofs.work_kinds.mov.Tie as tie

pub mov_spec : {M : Type 1} → statement M
mov_spec =
    tie.close
    (tie.spec
    (λ c κs. search rules) (λ c κs. search rules) (λ c. search rules)
    (λ c. c.put_register.ensures ∙ simp c.get_register-v.ensures))
