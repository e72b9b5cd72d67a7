-- `work::kinds::load_complex` meets its contract.
use borrow.Author.Rules.{rules}
use mathlib.Core.Path.{◌∙◌}
use native.Mathlib.Numerals.{add-one}
use Rattle.player_work.proofs.work_kinds.load_complex.Statement.{statement}
use Rattle.player_work.proofs.work_kinds.load_complex.Tie as tie

pub load_complex_spec : {M : Type 1} → statement M
load_complex_spec =
    tie.close
    (tie.spec
    (λ c κs. search rules) (λ c κs. search rules) (λ c. search rules) (λ c κs. search rules) (λ c κs. search rules) (λ c κs. search rules)
    (λ c. search rules)
    (λ c. c.put_register-2.ensures ∙ simp (c.put_register.ensures, c.get-y.ensures, c.get-x.ensures, c.place-i.ensures, add-one)))
