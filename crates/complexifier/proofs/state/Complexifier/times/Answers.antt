use Rattle.lowering.specs.Lines.{times_lines}
use Rattle.lowering.specs.Complexifier.{times, promoted}
use Rattle.complexifier.specs.Does.{made₂}
use Rattle.complexifier.proofs.state.Complexifier.times.Goals as goal

pub returns : goal.returns
unfolding times
returns c = made₂ times_lines promoted _ _ _ c.is_real_reg-x.ensures c.is_real_reg-y.ensures c.times_lines.ensures c.promote_real.ensures
