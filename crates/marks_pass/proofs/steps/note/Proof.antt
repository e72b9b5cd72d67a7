-- `marks_pass::steps::note` meets its contract.
use borrow.Author.Rules.{rules}
use mathlib.Core.Path.{sym, ◌∙◌}
use borrow.Author.Tests.{leb-true}
use Rattle.marks_pass.proofs.Arrays as A
use Rattle.marks_pass.proofs.steps.note.Statement.{statement}
use Rattle.marks_pass.proofs.steps.note.Tie as tie

note-at-requires : tie.Need-note_at-requires
note-at-requires c κs = (leb-true _ _ (sym c.has.ensures ∙ c.if-has.true), c.requires)

returns : tie.Need-returns-then-has
returns c = record { has = sym c.if-has.true ∙ c.has.ensures; made = λ _. c.note_at.ensures }

returns-2 : tie.Need-returns
returns-2 c = record { has = sym c.if-has.false ∙ c.has.ensures; made = λ e. A.clash e }

pub note_spec : {M : Type 1} → statement M
note_spec =
    tie.close
    (tie.spec
    (λ c κs. search rules) (λ c. search rules) note-at-requires (λ c. search rules) returns (λ c. search rules) returns-2)
