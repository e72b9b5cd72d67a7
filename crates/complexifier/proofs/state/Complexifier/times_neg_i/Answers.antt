use Rattle.lowering.specs.Lines.{timesNegILines}
use Rattle.lowering.specs.Complexifier.{as_complex}
use Rattle.complexifier.specs.Does.{made₁}
use Rattle.complexifier.proofs.state.Complexifier.times_neg_i.Goals as goal

pub returns : goal.returns
returns c = made₁ timesNegILines as_complex _ _ c.is_real_reg-x.ensures c.times_neg_i_lines.ensures c.set_reg_complex.ensures
