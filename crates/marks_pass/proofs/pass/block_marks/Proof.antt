-- `marks_pass::pass::block_marks` meets its contract.
use borrow.Author.Rules.{rules}
use Rattle.marks_pass.proofs.Records as R
use Rattle.marks_pass.proofs.pass.block_marks.Statement.{statement}
use Rattle.marks_pass.proofs.pass.block_marks.Tie as tie

returns : tie.Need-returns
returns c = R.block_by _ _ _ c.block_start-from.ensures c.straight.ensures

pub block_marks_spec : {M : Type 1} → statement M
block_marks_spec =
    tie.close
    (tie.spec
    (λ c κs. search rules) (λ c κs. search rules) (λ c. search rules) (λ c. search rules) returns)
