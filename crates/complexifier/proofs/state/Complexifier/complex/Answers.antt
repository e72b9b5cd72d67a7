use mathlib.Core.Path.{refl}
use Rattle.lowering.specs.Lines.{complex_lines}
use Rattle.lowering.specs.Complexifier.{both_as_complex}
use Rattle.complexifier.specs.Does.{made₂}
use Rattle.complexifier.proofs.state.Complexifier.complex.Goals as goal

pub returns : goal.returns
unfolding complex_lines
returns c = made₂ complex_lines both_as_complex _ _ _ refl refl c.complex_lines.ensures c.set_reg_complex.ensures
