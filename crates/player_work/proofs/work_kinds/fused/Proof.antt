-- `work::kinds::fused` meets its contract.
use borrow.Author.Rules.{rules}
use mathlib.Core.Path.{◌∙◌}
use Rattle.player_work.proofs.work_kinds.fused.Statement.{statement}
use Rattle.player_work.proofs.work_kinds.fused.Tie as tie

pub fused_spec : {M : Type 1} → statement M
fused_spec =
    tie.close
    (tie.spec
    (λ c κs. search rules) (λ c κs. search rules) (λ c κs. search rules) (λ c κs. search rules) (λ c κs. search rules) (λ c. search rules)
    (λ c. c.put_register.ensures ∙ simp (c.fused_word-v.ensures, c.get_register-z.ensures, c.get_register-y.ensures, c.get_register-x.ensures)))
