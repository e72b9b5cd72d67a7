-- `work::kinds::save_complex` meets its contract.
use borrow.Author.Rules.{rules}
use mathlib.Core.Path.{◌∙◌}
use native.Mathlib.Numerals.{add-one}
use Rattle.player_work.proofs.work_kinds.save_complex.Statement.{statement}
use Rattle.player_work.proofs.work_kinds.save_complex.Tie as tie

pub save_complex_spec : {M : Type 1} → statement M
save_complex_spec =
    tie.close
    (tie.spec
    (λ c κs. search rules) (λ c κs. search rules) (λ c κs. search rules) (λ c κs. search rules) (λ c. search rules) (λ c κs. search rules)
    (λ c. search rules)
    (λ c. c.put-2.ensures ∙ simp (c.put.ensures, c.get_register-y.ensures, c.get_register-x.ensures, c.place-i.ensures, add-one)))
