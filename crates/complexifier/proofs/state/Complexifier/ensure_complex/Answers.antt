use Rattle.lowering.specs.Lines.{ensure_lines}
use Rattle.lowering.specs.Complexifier.{ensure_complex, one_by_one, as_complex}
use Rattle.complexifier.specs.Does.{made₁}
use Rattle.complexifier.proofs.state.Complexifier.ensure_complex.Goals as goal

pub returns : goal.returns
unfolding ensure_complex one_by_one
returns c = made₁ (λ x d a. ensure_lines x d) as_complex _ _ c.is_real_reg-x.ensures c.ensure_lines.ensures c.set_reg_complex.ensures
