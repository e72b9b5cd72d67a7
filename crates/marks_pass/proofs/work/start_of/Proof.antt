-- `marks_pass::work::start_of` meets its contract.
use borrow.Author.Rules.{rules}
use Rattle.marks_pass.proofs.work.start_of.Statement.{statement}
use Rattle.marks_pass.proofs.work.start_of.Tie as tie

pub start_of_spec : {M : Type 1} → statement M
start_of_spec =
    tie.close
    (tie.spec
    (λ c. search rules) (λ c. search rules) (λ c. search rules))
