-- `making::with_instruction`: one too many, none, or one more.
use native.Mathlib.Omega.{arith}
use mathlib.Core.Path.{ap}
use Rattle.mir.specs.Decode.{as_next}
use Rattle.assembly.specs.Making.{sheet_of}
use Rattle.assembly.proofs.Growing.{makes_as, refusing, instruction-many, instruction-none, instruction-put}
use Rattle.assembly.proofs.making.with_instruction.Goals as goal

pub returns-then-instructions-ge-LONGEST : goal.returns-then-instructions-ge-LONGEST
returns-then-instructions-ge-LONGEST c =
    let a = c.args in
    refusing 3 c.refuse.ensures (instruction-many (sheet_of a.s a.out.now) a.b.now (omega arith))

pub returns-in_default : goal.returns-in_default
returns-in_default c =
    let a = c.args in
    let r = c.read_instruction.ensures in
    refusing 2 c.refuse-in_default.ensures
    (instruction-none (sheet_of a.s a.out.now) a.b.now (omega arith) r _ (ap as_next c.in_default.is))

pub returns : goal.returns
returns c =
    let a = c.args in
    let r = c.read_instruction.ensures in
    makes_as (instruction-put (sheet_of a.s a.out.now) a.b.now (omega arith) r _ (ap as_next c.in-Ok.is)) c.grow.ensures
