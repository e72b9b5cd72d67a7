-- `text_of` meets its contract.
use borrow.Author.Rules.{rules}
use Rattle.shelf.proofs.Whole.{refused, told}
use Rattle.shelf.proofs.text_of.Statement.{statement}
use Rattle.shelf.proofs.text_of.Tie as tie

pub text_of_spec : {M : Type 1} → statement M
text_of_spec =
    tie.close
    (tie.spec
    (λ c κs. search rules) (λ c. search rules) (λ c κs. search rules)
    (λ c. refused c.args.sheet.now c.shelf-f.ensures c.if-f-ne0.true c.refused_line.ensures)
    (λ c κs. search rules)
    (λ c. told c.args.sheet.now c.shelf-f.ensures c.if-f-ne0.false c.figures_text.ensures))
