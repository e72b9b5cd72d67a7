use Rattle.lowering.specs.Lines.{each_lines}
use Rattle.lowering.specs.Complexifier.{copied}
use Rattle.complexifier.specs.Does.{made₁}
use Rattle.complexifier.proofs.state.Complexifier.each.Goals as goal

pub returns : goal.returns
returns c = made₁ (each_lines _) copied _ _ c.is_real_reg-x.ensures c.each_lines.ensures c.copy_real.ensures
