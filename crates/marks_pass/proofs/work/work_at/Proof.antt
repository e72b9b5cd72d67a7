-- `marks_pass::work::work_at` meets its contract.
use borrow.Author.Rules.{rules}
use Rattle.marks_pass.proofs.work.work_at.Statement.{statement}
use Rattle.marks_pass.proofs.work.work_at.Tie as tie

work-requires : tie.Need-work-requires
work-requires c κs = (c.requires.0, (c.if-s-ge11.true, c.requires.1))

returns : tie.Need-returns-then-s-ge11
returns c = c.work.ensures

work-last-requires : tie.Need-work_last-requires
work-last-requires c κs = c.requires

returns-2 : tie.Need-returns
returns-2 c = c.work_last.ensures

pub work_at_spec : {M : Type 1} → statement M
work_at_spec =
    tie.close
    (tie.spec
    work-requires (λ c. search rules) (λ c. search rules) returns work-last-requires (λ c. search rules)
    (λ c. search rules) returns-2)
