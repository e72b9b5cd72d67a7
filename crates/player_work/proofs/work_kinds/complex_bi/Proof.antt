-- `work::kinds::complex_bi` meets its contract.
use borrow.Author.Rules.{rules}
use mathlib.Core.Path.{◌∙◌}
use Rattle.player_work.proofs.work_kinds.complex_bi.Statement.{statement}
use Rattle.player_work.proofs.work_kinds.complex_bi.Tie as tie

pub complex_bi_spec : {M : Type 1} → statement M
complex_bi_spec =
    tie.close
    (tie.spec
    (λ c κs. search rules) (λ c κs. search rules) (λ c κs. search rules) (λ c κs. search rules) (λ c κs. search rules)
    (λ c κs. search rules) (λ c κs. search rules) (λ c. search rules)
    (λ c. c.put_register-2.ensures ∙ simp (c.put_register.ensures, c.complex_words-w.ensures.0, c.complex_words-w.ensures.1, c.get_register-d.ensures, c.get_register-c.ensures, c.get_register-b.ensures, c.get_register-a.ensures)))
