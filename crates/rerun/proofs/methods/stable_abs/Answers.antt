use Rattle.std.proofs.Common.{refl}
use Rattle.lowering.specs.Lines.{stable_abs_lines}
use Rattle.lowering.specs.Complexifier.{FLOOR_FINITE, EXP_MASK_FINITE, INFINITY, stable_abs}
use Rattle.rerun.specs.Adds.{threefold}
use Rattle.rerun.proofs.methods.stable_abs.Goals as goal

pub returns : goal.returns
unfolding stable_abs
returns c = threefold FLOOR_FINITE EXP_MASK_FINITE INFINITY (stable_abs_lines _ _) _ c.seek_three-t.ensures c.stable_abs_lines.ensures c.set_reg_complex.ensures refl
