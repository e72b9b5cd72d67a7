use Rattle.lowering.specs.Lines.{timesILines}
use Rattle.lowering.specs.Complexifier.{as_complex}
use Rattle.complexifier.specs.Does.{made₁}
use Rattle.complexifier.proofs.state.Complexifier.times_i.Goals as goal

pub returns : goal.returns
returns c = made₁ timesILines as_complex _ _ c.is_real_reg-x.ensures c.times_i_lines.ensures c.set_reg_complex.ensures
