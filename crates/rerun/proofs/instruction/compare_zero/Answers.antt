use Rattle.complexifier.specs.Does.{◌▸◌}
use Rattle.rerun.proofs.instruction.compare_zero.Goals as goal

pub returns : goal.returns
returns c = c.bits.ensures ▸ c.compare.ensures
