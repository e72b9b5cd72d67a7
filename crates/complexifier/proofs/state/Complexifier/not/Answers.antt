use mathlib.Core.Path.{refl}
use Rattle.lowering.specs.Lines.{not_lines}
use Rattle.lowering.specs.Complexifier.{as_real}
use Rattle.complexifier.specs.Does.{made₁}
use Rattle.complexifier.proofs.state.Complexifier.not.Goals as goal

pub returns : goal.returns
unfolding not_lines
returns c = made₁ not_lines as_real _ _ refl c.not_lines.ensures c.set_reg_real.ensures
