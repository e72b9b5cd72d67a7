-- `marks_pass::pass::call_block` meets its contract.
use borrow.Author.Rules.{rules}
use Rattle.marks_pass.proofs.Directing as S
use Rattle.marks_pass.proofs.pass.call_block.Statement.{statement}
use Rattle.marks_pass.proofs.pass.call_block.Tie as tie

returns : tie.Need-returns-then-known
returns c = S.called-known _ _ c.if-known.true c.call.ensures

returns-2 : tie.Need-returns
returns-2 c = S.called-new _ _ c.if-known.false c.block_marks.ensures c.call-2.ensures

pub call_block_spec : {M : Type 1} → statement M
call_block_spec =
    tie.close
    (tie.spec
    (λ c κs. search rules) (λ c. search rules) (λ c. search rules) (λ c. search rules) (λ c. search rules) returns
    (λ c κs. search rules) (λ c κs. search rules) (λ c. search rules) (λ c. search rules) (λ c. search rules)
    (λ c. search rules) returns-2)
