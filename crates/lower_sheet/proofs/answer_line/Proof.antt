-- `answer_line` meets its contract: each word of the answer is its number.
use borrow.Author.Rules.{rules}
use mathlib.Core.Path.{subst}
use Rattle.text.specs.Line.{Prints}
use Rattle.reports.specs.Lines.{lowered_line}
use Rattle.lower_sheet.proofs.answer_line.Statement.{statement}
use Rattle.lower_sheet.proofs.answer_line.Tie as tie

pub answer_line_spec : {M : Type 1} → statement M
answer_line_spec =
    tie.close
    (tie.spec
    (λ c κs. search rules) (λ c κs. search rules) (λ c κs. search rules) (λ c κs. search rules) (λ c κs. search rules)
    (λ c.
    let number = c.word_at.ensures in
    let index = c.word_at-2.ensures in
    let bytes = c.word_at-3.ensures in
    let constants = c.word_at-4.ensures in
    subst (λ t. Prints t c.lowered_line.result) (λ i. lowered_line (number i) (index i) (bytes i) (constants i)) c.lowered_line.ensures))
