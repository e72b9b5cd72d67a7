-- A Call, another that directs, and one whose label the table has not.
use Rattle.marks_pass.proofs.Directing as S
use Rattle.marks_pass.proofs.pass.direct.Goals as goal

pub returns-then-u16_at-eq16 : goal.returns-then-u16_at-eq16
returns-then-u16_at-eq16 c = S.directed-call _ _ _ _ c.u16_at.ensures c.if-u16_at-eq16.true c.call_block.ensures

pub returns-then-jump : goal.returns-then-jump
returns-then-jump c = S.directed-jump _ _ _ _ c.u16_at.ensures c.if-u16_at-eq16.false c.if-jump.true c.jump.ensures

pub returns : goal.returns
returns c = S.directed-none _ _ _ _ c.u16_at.ensures c.if-u16_at-eq16.false c.if-jump.false c.jump.ensures
