use Rattle.lowering.specs.Lines.{bits_lines}
use Rattle.lowering.specs.Complexifier.{bits, promoted}
use Rattle.complexifier.specs.Does.{made₂}
use Rattle.complexifier.proofs.state.Complexifier.bits.Goals as goal

pub returns : goal.returns
unfolding bits
returns c = made₂ (bits_lines _) promoted _ _ _ c.is_real_reg-x.ensures c.is_real_reg-y.ensures c.bits_lines.ensures c.promote_real.ensures
