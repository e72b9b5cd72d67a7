use mathlib.Core.Path.{refl}
use Rattle.lowering.specs.Lines.{real_lines}
use Rattle.lowering.specs.Complexifier.{as_real}
use Rattle.complexifier.specs.Does.{made₁}
use Rattle.complexifier.proofs.state.Complexifier.real.Goals as goal

pub returns : goal.returns
unfolding real_lines
returns c = made₁ real_lines as_real _ _ refl c.real_lines.ensures c.set_reg_real.ensures
