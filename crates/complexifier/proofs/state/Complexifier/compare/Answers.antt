use mathlib.Core.Bool.{true}
use Rattle.lowering.specs.Lines.{compare_lines}
use Rattle.lowering.specs.Complexifier.{compare}
use Rattle.complexifier.specs.Does.{made, ◌▸◌}
use Rattle.complexifier.proofs.state.Complexifier.compare.Goals as goal

pub returns : goal.returns
unfolding compare
returns c = c.ensure_complex.ensures ▸ c.ensure_complex-2.ensures ▸ made (compare_lines _ _ _ _ _) _ true c.compare_lines.ensures c.set_reg_real.ensures
