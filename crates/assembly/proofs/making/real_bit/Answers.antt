-- The bit by the place's class and index.
use Rattle.std.proofs.Common.{arith}
use Rattle.assembly.proofs.Marking.{too_far, on_stack, in-param, elsewhere}
use Rattle.assembly.proofs.making.real_bit.Goals as goal

pub returns-then-i-gt255 : goal.returns-then-i-gt255
returns-then-i-gt255 c =
    too_far c.args.b.now c.byte-class.result c.u16_at-i.result c.byte-class.ensures c.u16_at-i.ensures (omega arith)

pub returns-then-class-eq0 : goal.returns-then-class-eq0
returns-then-class-eq0 c =
    on_stack c.args.b.now c.byte-class.result c.u16_at-i.result c.byte-class.ensures c.u16_at-i.ensures (omega arith) c.if-class-eq0.true

pub returns-then-class-eq2 : goal.returns-then-class-eq2
returns-then-class-eq2 c =
    in-param c.args.b.now c.byte-class.result c.u16_at-i.result c.byte-class.ensures c.u16_at-i.ensures (omega arith) c.if-class-eq2.true

pub returns : goal.returns
returns c =
    elsewhere c.args.b.now c.byte-class.result c.u16_at-i.result c.byte-class.ensures c.u16_at-i.ensures (omega arith)
    c.if-class-eq0.false c.if-class-eq2.false
