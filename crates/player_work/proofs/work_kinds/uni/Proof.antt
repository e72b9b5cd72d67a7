-- `work::kinds::uni` meets its contract.
use borrow.Author.Rules.{rules}
use mathlib.Core.Path.{◌∙◌}
use Rattle.player_work.proofs.work_kinds.uni.Statement.{statement}
use Rattle.player_work.proofs.work_kinds.uni.Tie as tie

pub uni_spec : {M : Type 1} → statement M
uni_spec =
    tie.close
    (tie.spec
    (λ c κs. search rules) (λ c κs. search rules) (λ c κs. search rules) (λ c. search rules)
    (λ c. c.put_register.ensures ∙ simp (c.uni_word-v.ensures, c.get_register-a.ensures)))
