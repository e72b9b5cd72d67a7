-- `marks_pass::work::draw` meets its contract.
use borrow.Author.Rules.{rules}
use Rattle.marks_pass.proofs.Arrays as A
use Rattle.marks_pass.proofs.work.draw.Statement.{statement}
use Rattle.marks_pass.proofs.work.draw.Tie as tie

returns : tie.Need-returns
returns c = A.drawn-one _ _ _ (search rules)

pub draw_spec : {M : Type 1} → statement M
draw_spec =
    tie.close
    (tie.spec
    (λ c. search rules) (λ c. search rules) (λ c. search rules) (λ c. search rules) returns)
