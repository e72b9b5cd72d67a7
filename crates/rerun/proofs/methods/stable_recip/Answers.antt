use Rattle.std.proofs.Common.{refl}
use Rattle.lowering.specs.Lines.{stable_recip_lines}
use Rattle.lowering.specs.Complexifier.{MIN_POSITIVE, INFINITY, QUARTER, stable_recip}
use Rattle.rerun.specs.Adds.{threefold}
use Rattle.rerun.proofs.methods.stable_recip.Goals as goal

pub returns : goal.returns
unfolding stable_recip
returns c = threefold MIN_POSITIVE INFINITY QUARTER (stable_recip_lines _ _) _ c.seek_three-t.ensures c.stable_recip_lines.ensures c.set_reg_complex.ensures refl
