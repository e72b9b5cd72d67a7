-- A real place too late, no place, and one more.
use Rattle.std.proofs.Common.{arith, ap}
use Rattle.assembly.specs.Making.{sheet_of}
use Rattle.assembly.specs.Reading.{read_of}
use Rattle.assembly.proofs.Growing.{refusing, real-late, real-none, real-bit, real_put}
use Rattle.assembly.proofs.making.with_real.Goals as goal

pub returns-then-s-gt1 : goal.returns-then-s-gt1
returns-then-s-gt1 c =
    let a = c.args in
    refusing 2 c.refuse.ensures (real-late (sheet_of a.s a.out.now) a.b.now c.if-s-gt1.true)

pub returns-in_default : goal.returns-in_default
returns-in_default c =
    let a = c.args in
    let r = c.real_bit.ensures in
    refusing 2 c.refuse-in_default.ensures (real-none (sheet_of a.s a.out.now) a.b.now (omega arith) r (ap read_of c.in_default.is))

pub returns : goal.returns
returns c =
    let a = c.args in
    let i = c.in-Some in
    let r = c.real_bit.ensures in
    real_put a.s a.out.now a.b.now i.i c.requires c.mark.ensures
    (real-bit (sheet_of a.s a.out.now) a.b.now (omega arith) r i.i (ap read_of i.is))
