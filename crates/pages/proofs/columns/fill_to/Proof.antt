-- `pages::columns::fill_to` meets its contract.
use borrow.Author.Rules.{rules}
use Rattle.text.specs.Line.{◌▹◌}
use Rattle.pages.proofs.Aligned.{so-many}
use Rattle.pages.proofs.columns.fill_to.Statement.{statement}
use Rattle.pages.proofs.columns.fill_to.Tie as tie

pub fill_to_spec : {M : Type 1} → statement M
fill_to_spec =
    tie.close
    (tie.spec
    (λ c κs. search rules) (λ c κs. search rules) (λ c κs. search rules)
    (λ c. so-many c.left_of.ensures c.spaces.ensures ▹ c.byte.ensures))
