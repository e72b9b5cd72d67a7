-- `pages::pages` meets its contract.
use borrow.Author.Rules.{rules}
use mathlib.Core.Path.{◌∙◌}
use Rattle.pages.proofs.Laying.{all_pages}
use Rattle.pages.proofs.pages.Statement.{statement}
use Rattle.pages.proofs.pages.Tie as tie

pub pages_spec : {M : Type 1} → statement M
pages_spec =
    tie.close
    (tie.spec
    (λ c κs. search rules)
    (λ c. search rules)
    (λ c. let a = c.args in c.part.ensures ∙ all_pages a.listing.now a.constants.now a.out.now))
