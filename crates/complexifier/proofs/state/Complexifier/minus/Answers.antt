use Rattle.lowering.specs.Lines.{minus_lines}
use Rattle.lowering.specs.Complexifier.{minus, promoted}
use Rattle.complexifier.specs.Does.{made₂}
use Rattle.complexifier.proofs.state.Complexifier.minus.Goals as goal

pub returns : goal.returns
unfolding minus
returns c = made₂ minus_lines promoted _ _ _ c.is_real_reg-x.ensures c.is_real_reg-y.ensures c.minus_lines.ensures c.promote_real.ensures
