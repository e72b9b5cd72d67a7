-- `pages::columns::index_line` meets its contract.
use borrow.Author.Rules.{rules}
use Rattle.pages.proofs.Aligned.{head}
use Rattle.pages.proofs.columns.index_line.Statement.{statement}
use Rattle.pages.proofs.columns.index_line.Tie as tie

pub index_line_spec : {M : Type 1} → statement M
index_line_spec =
    tie.close
    (tie.spec
    (λ c κs. search rules) (λ c κs. search rules) (λ c κs. search rules) (λ c κs. search rules) (λ c κs. search rules) (λ c κs. search rules)
    (λ c κs. search rules)
    (λ c.
    head c.args.index
    c.empty_line.ensures c.decimal-digits.ensures
    c.left_of.ensures c.empty_line-2.ensures
    c.spaces.ensures c.decimal.ensures c.byte.ensures))
