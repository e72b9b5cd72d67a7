-- `pages::columns::blank_line` meets its contract.
use borrow.Author.Rules.{rules}
use Rattle.pages.proofs.Aligned.{blank}
use Rattle.pages.proofs.columns.blank_line.Statement.{statement}
use Rattle.pages.proofs.columns.blank_line.Tie as tie

pub blank_line_spec : {M : Type 1} → statement M
blank_line_spec =
    tie.close
    (tie.spec
    (λ c κs. search rules) (λ c κs. search rules)
    (λ c. blank c.empty_line.ensures c.fill_to.ensures))
