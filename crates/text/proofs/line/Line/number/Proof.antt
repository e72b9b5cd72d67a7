-- `text::fields::Line::number` meets its contract.
use borrow.Author.Rules.{rules}
use Rattle.text.specs.Line.{◌▹◌}
use Rattle.text.proofs.line.Line.number.Statement.{statement}
use Rattle.text.proofs.line.Line.number.Tie as tie

pub number_spec : {M : Type 1} → statement M
number_spec =
    tie.close
    (tie.spec
    (λ c κs. search rules) (λ c κs. search rules)
    (λ c. c.byte.ensures ▹ c.decimal.ensures))
