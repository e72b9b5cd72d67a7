-- `work::kinds::if_else` meets its contract.
use borrow.Author.Rules.{rules}
use mathlib.Core.Path.{◌∙◌}
use Rattle.player_work.proofs.work_kinds.if_else.Statement.{statement}
use Rattle.player_work.proofs.work_kinds.if_else.Tie as tie

pub if_else_spec : {M : Type 1} → statement M
if_else_spec =
    tie.close
    (tie.spec
    (λ c κs. search rules) (λ c κs. search rules) (λ c κs. search rules) (λ c κs. search rules) (λ c κs. search rules)
    (λ c κs. search rules) (λ c. search rules)
    (λ c. c.put_register.ensures ∙ simp (c.if_else-v.ensures, c.get_register-f.ensures, c.get_register-t.ensures, c.get-c.ensures, c.place-i.ensures)))
