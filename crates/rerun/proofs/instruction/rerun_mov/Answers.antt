use Rattle.rerun.specs.Adds.{stay}
use Rattle.rerun.proofs.Moves.{to-itself, to-another}
use Rattle.rerun.proofs.instruction.rerun_mov.Goals as goal

pub returns-then-dst-s1 : goal.returns-then-dst-s1
returns-then-dst-s1 c = to-another _ _ c.if-dst-s1.true c.fmov.ensures

pub returns-else-dst-s1 : goal.returns-else-dst-s1
returns-else-dst-s1 c = to-itself _ _ c.if-dst-s1.false stay
