use Rattle.lowering.specs.Complexifier.{root}
use Rattle.complexifier.specs.Does.{◌▸◌}
use Rattle.rerun.specs.Adds.{◌▸▸◌}
use Rattle.rerun.proofs.methods.root.Goals as goal

pub returns : goal.returns
unfolding root
returns c = c.ensure_complex.ensures ▸ c.fmov.ensures ▸ c.call_root.ensures ▸ c.fmov-2.ensures ▸▸ c.define_root.ensures
