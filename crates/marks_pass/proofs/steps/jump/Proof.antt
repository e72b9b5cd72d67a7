-- `marks_pass::steps::jump` meets its contract.
use borrow.Author.Rules.{rules}
use Rattle.marks_pass.proofs.Directing as S
use Rattle.marks_pass.proofs.steps.jump.Statement.{statement}
use Rattle.marks_pass.proofs.steps.jump.Tie as tie

returns : tie.Need-returns-then-kind-eq14
returns c = S.jumped-label _ _ _ c.u16_at-kind.ensures c.byte-l.ensures (search rules) c.if-kind-eq14.true c.enter.ensures

returns-2 : tie.Need-returns-then-kind-eq15
returns-2 c = S.jumped-branch _ _ _ c.u16_at-kind.ensures c.byte-l.ensures (search rules) c.branch-filled.auto.ways c.if-kind-eq15.true c.branch-filled.ensures

returns-3 : tie.Need-returns-then-kind-eq17
returns-3 c = S.jumped-if _ _ _ c.u16_at-kind.ensures c.byte-l.ensures (search rules) _ c.note.auto.ways c.byte.ensures (search rules) c.if-kind-eq17.true c.draw.ensures c.note.ensures

returns-4 : tie.Need-returns
returns-4 c = S.jumped_none _ _ c.u16_at-kind.ensures c.if-kind-eq14.false c.if-kind-eq15.false c.if-kind-eq17.false

pub jump_spec : {M : Type 1} → statement M
jump_spec =
    tie.close
    (tie.spec
    (λ c κs. search rules) (λ c κs. search rules) (λ c κs. search rules) (λ c. search rules) (λ c. search rules) returns
    (λ c κs. search rules) (λ c. search rules) (λ c. search rules) returns-2 (λ c κs. search rules)
    (λ c κs. search rules) (λ c κs. search rules) (λ c. search rules) (λ c. search rules) (λ c. search rules) returns-3
    returns-4)
