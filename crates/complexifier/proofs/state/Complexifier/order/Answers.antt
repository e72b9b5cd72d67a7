use mathlib.Core.Path.{refl}
use Rattle.lowering.specs.Lines.{order_lines}
use Rattle.lowering.specs.Complexifier.{both_as_real}
use Rattle.complexifier.specs.Does.{made₂}
use Rattle.complexifier.proofs.state.Complexifier.order.Goals as goal

pub returns : goal.returns
unfolding order_lines
returns c = made₂ (order_lines _) both_as_real _ _ _ refl refl c.order_lines.ensures c.set_reg_real.ensures
