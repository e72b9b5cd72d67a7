-- `marks_pass::steps::enter` meets its contract.
use borrow.Author.Rules.{rules}
use mathlib.Core.Path.{sym, ◌∙◌}
use borrow.Author.Tests.{leb-true}
use Rattle.marks_pass.proofs.Arrays as A
use Rattle.marks_pass.proofs.steps.enter.Statement.{statement}
use Rattle.marks_pass.proofs.steps.enter.Tie as tie

enter-at-requires : tie.Need-enter_at-requires
enter-at-requires c κs = (leb-true _ _ (sym c.has.ensures ∙ c.if-has.true), c.requires)

returns : tie.Need-returns-then-has
returns c = record { has = sym c.if-has.true ∙ c.has.ensures; made = λ _. c.enter_at.ensures }

returns-2 : tie.Need-returns
returns-2 c = record { has = sym c.if-has.false ∙ c.has.ensures; made = λ e. A.clash e }

pub enter_spec : {M : Type 1} → statement M
enter_spec =
    tie.close
    (tie.spec
    (λ c κs. search rules) (λ c. search rules) enter-at-requires (λ c. search rules) returns returns-2)
