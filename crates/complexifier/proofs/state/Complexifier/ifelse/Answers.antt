use mathlib.Core.Bool.{false}
use Rattle.lowering.specs.Lines.{ifelse_lines}
use Rattle.lowering.specs.Complexifier.{ifelse}
use Rattle.complexifier.specs.Does.{made, ◌▸◌}
use Rattle.complexifier.proofs.state.Complexifier.ifelse.Goals as goal

pub returns : goal.returns
unfolding ifelse
returns c = c.ensure_complex.ensures ▸ c.ensure_complex-2.ensures ▸ made (ifelse_lines _ _ _ _) _ false c.ifelse_lines.ensures c.set_reg_complex.ensures
