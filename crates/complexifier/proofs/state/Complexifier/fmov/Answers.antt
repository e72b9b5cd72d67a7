use Rattle.lowering.specs.Lines.{fmov_lines}
use Rattle.lowering.specs.Complexifier.{fmov, copied}
use Rattle.complexifier.specs.Does.{made₁}
use Rattle.complexifier.proofs.state.Complexifier.fmov.Goals as goal

pub returns : goal.returns
unfolding fmov
returns c = made₁ fmov_lines copied _ _ c.is_real_reg-x.ensures c.fmov_lines.ensures c.copy_real.ensures
