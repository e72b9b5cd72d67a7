use Rattle.lowering.specs.Complexifier.{fused_mul_sub}
use Rattle.complexifier.specs.Does.{◌▸◌}
use Rattle.complexifier.proofs.state.Complexifier.fused_mul_sub.Goals as goal

pub returns : goal.returns
unfolding fused_mul_sub
returns c = c.times.ensures ▸ c.minus.ensures
