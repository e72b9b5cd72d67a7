use Rattle.std.proofs.Common.{rules}
use Rattle.rerun.specs.Ends.{few_constants, many-constants, idle, ended}
use Rattle.rerun.proofs.instruction.rerun.Goals as goal

pub returns-then-constants-gt256 : goal.returns-then-constants-gt256
returns-then-constants-gt256 c = many-constants _ c.if-constants-gt256.true (idle c.nothing.ensures)

pub returns : goal.returns
returns c = few_constants c.if-constants-gt256.false (ended c.new-writer.ensures.holds c.rerun_within-added.ensures (search rules))
