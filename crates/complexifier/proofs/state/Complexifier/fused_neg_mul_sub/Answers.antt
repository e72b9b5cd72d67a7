use Rattle.lowering.specs.Complexifier.{fused_neg_mul_sub}
use Rattle.complexifier.specs.Does.{◌▸◌}
use Rattle.complexifier.proofs.state.Complexifier.fused_neg_mul_sub.Goals as goal

pub returns : goal.returns
unfolding fused_neg_mul_sub
returns c = c.times.ensures ▸ c.plus.ensures ▸ c.each.ensures
