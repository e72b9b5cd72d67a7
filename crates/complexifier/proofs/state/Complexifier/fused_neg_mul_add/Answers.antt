use Rattle.lowering.specs.Complexifier.{fused_neg_mul_add}
use Rattle.complexifier.specs.Does.{◌▸◌}
use Rattle.complexifier.proofs.state.Complexifier.fused_neg_mul_add.Goals as goal

pub returns : goal.returns
unfolding fused_neg_mul_add
returns c = c.times.ensures ▸ c.minus.ensures
