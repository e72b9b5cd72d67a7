-- `figures_text` meets its contract.
use borrow.Author.Rules.{rules}
use mathlib.Core.Path.{subst}
use Rattle.text.specs.declared.line.Line.{Line}
use Rattle.text.specs.Line.{Adds, ◌▹◌}
use Rattle.text.specs.Text.{ascii}
use Rattle.shelf.specs.Printed.{figures_text}
use Rattle.shelf.proofs.figures_text.Statement.{statement}
use Rattle.shelf.proofs.figures_text.Tie as tie

pub figures_text_spec : {M : Type 1} → statement M
unfolding ascii figures_text
figures_text_spec =
    tie.close
    (tie.spec
    (λ c κs. search rules) (λ c. search rules) (λ c κs. search rules) (λ c κs. search rules) (λ c. search rules) (λ c κs. search rules) (λ c κs. search rules) (λ c. search rules) (λ c κs. search rules)
    (λ c κs. search rules)
    (λ c. let a = c.args in subst (λ (l : Line). Adds l (figures_text a.bytes a.constants a.records) c.byte-3.result) c.empty_line.ensures ((c.text.ensures ▹ c.number.ensures ▹ c.byte.ensures) ▹ (c.text-2.ensures ▹ c.number-2.ensures ▹ c.byte-2.ensures) ▹ (c.text-3.ensures ▹ c.number-3.ensures ▹ c.byte-3.ensures))))
