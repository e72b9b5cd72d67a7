use Rattle.lowering.specs.Lines.{abs2_lines}
use Rattle.lowering.specs.Complexifier.{copied}
use Rattle.complexifier.specs.Does.{made₁}
use Rattle.complexifier.proofs.state.Complexifier.abs2.Goals as goal

pub returns : goal.returns
returns c = made₁ abs2_lines copied _ _ c.is_real_reg-x.ensures c.abs2_lines.ensures c.copy_real.ensures
