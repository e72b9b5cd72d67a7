-- `work::kinds::bi` meets its contract.
use borrow.Author.Rules.{rules}
use mathlib.Core.Path.{◌∙◌}
use Rattle.player_work.proofs.work_kinds.bi.Statement.{statement}
use Rattle.player_work.proofs.work_kinds.bi.Tie as tie

pub bi_spec : {M : Type 1} → statement M
bi_spec =
    tie.close
    (tie.spec
    (λ c κs. search rules) (λ c κs. search rules) (λ c κs. search rules) (λ c κs. search rules) (λ c. search rules)
    (λ c. c.put_register.ensures ∙ simp (c.bin_word-v.ensures, c.get_register-b.ensures, c.get_register-a.ensures)))
