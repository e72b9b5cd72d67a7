use Rattle.std.proofs.Common.{refl}
use lib.Dec.{ltb}
use Rattle.lowering.specs.Lines.{stable_divide_lines}
use Rattle.lowering.specs.Complexifier.{MIN_POSITIVE, INFINITY, QUARTER, stable_divide}
use Rattle.rerun.specs.Adds.{threefold}
use Rattle.rerun.proofs.methods.stable_divide.Goals as goal

pub returns : goal.returns
unfolding stable_divide
returns c = threefold MIN_POSITIVE INFINITY QUARTER (stable_divide_lines (ltb c.args.dst 30) c.args.x c.args.dst c.args.s1 c.args.s2) _ c.seek_three-t.ensures c.stable_divide_lines.ensures c.set_reg_complex.ensures refl
