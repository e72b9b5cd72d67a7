use Rattle.lowering.specs.Lines.{conjugate_lines}
use Rattle.lowering.specs.Complexifier.{copied}
use Rattle.complexifier.specs.Does.{made₁}
use Rattle.complexifier.proofs.state.Complexifier.conjugate.Goals as goal

pub returns : goal.returns
returns c = made₁ conjugate_lines copied _ _ c.is_real_reg-x.ensures c.conjugate_lines.ensures c.copy_real.ensures
