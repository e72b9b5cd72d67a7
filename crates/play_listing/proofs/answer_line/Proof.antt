-- `answer_line` meets its contract: each word of the answer is its number.
use borrow.Author.Rules.{rules}
use mathlib.Core.Path.{subst}
use Rattle.text.specs.Line.{Prints}
use Rattle.reports.specs.Lines.{played_line}
use Rattle.play_listing.proofs.answer_line.Statement.{statement}
use Rattle.play_listing.proofs.answer_line.Tie as tie

pub answer_line_spec : {M : Type 1} → statement M
answer_line_spec =
    tie.close
    (tie.spec
    (λ c κs. search rules) (λ c κs. search rules) (λ c κs. search rules) (λ c κs. search rules)
    (λ c.
    let number = c.word_at.ensures in
    let index = c.word_at-2.ensures in
    let played = c.word_at-3.ensures in
    subst (λ t. Prints t c.played_line.result) (λ i. played_line (number i) (index i) (played i)) c.played_line.ensures))
