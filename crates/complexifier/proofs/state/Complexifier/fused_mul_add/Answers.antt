use Rattle.lowering.specs.Complexifier.{fused_mul_add}
use Rattle.complexifier.specs.Does.{◌▸◌}
use Rattle.complexifier.proofs.state.Complexifier.fused_mul_add.Goals as goal

pub returns : goal.returns
unfolding fused_mul_add
returns c = c.times.ensures ▸ c.plus.ensures
