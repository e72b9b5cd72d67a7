use Rattle.lowering.specs.Lines.{imaginary_lines}
use Rattle.lowering.specs.Complexifier.{as_real}
use Rattle.complexifier.specs.Does.{made₁}
use Rattle.complexifier.proofs.state.Complexifier.imaginary.Goals as goal

pub returns : goal.returns
returns c = made₁ imaginary_lines as_real _ _ c.is_real_reg-x.ensures c.imaginary_lines.ensures c.set_reg_real.ensures
