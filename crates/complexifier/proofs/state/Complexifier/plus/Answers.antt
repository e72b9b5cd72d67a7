use Rattle.lowering.specs.Lines.{plus_lines}
use Rattle.lowering.specs.Complexifier.{plus, promoted}
use Rattle.complexifier.specs.Does.{made₂}
use Rattle.complexifier.proofs.state.Complexifier.plus.Goals as goal

pub returns : goal.returns
unfolding plus
returns c = made₂ plus_lines promoted _ _ _ c.is_real_reg-x.ensures c.is_real_reg-y.ensures c.plus_lines.ensures c.promote_real.ensures
