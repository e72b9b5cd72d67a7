-- `marks_pass::work::fill` meets its contract.
use borrow.Author.Rules.{rules}
use Rattle.marks_pass.proofs.Arrays as A
use Rattle.marks_pass.proofs.work.fill.Statement.{statement}
use Rattle.marks_pass.proofs.work.fill.Tie as tie

returns : tie.Need-returns
returns c = A.filled-one _ _ (search rules)

pub fill_spec : {M : Type 1} → statement M
fill_spec =
    tie.close
    (tie.spec
    (λ c. search rules) (λ c. search rules) returns)
