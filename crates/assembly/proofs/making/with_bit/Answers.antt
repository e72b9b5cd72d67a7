-- A bit set by its mask.
use Rattle.std.proofs.Common.{arith, ◌%◌}
use Rattle.assembly.proofs.Marking.{bit-put}
use Rattle.assembly.proofs.making.with_bit.Goals as goal

pub returns : goal.returns
returns c = bit-put c.args.b (c.args.i % 8) (omega arith) (omega arith)
