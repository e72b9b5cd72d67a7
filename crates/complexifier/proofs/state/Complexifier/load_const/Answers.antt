use mathlib.Core.Bool.{true}
use mathlib.Core.List.{[], ◌∷◌}
use Rattle.mir.specs.Register.{re}
use Rattle.lowering.specs.Pushes as mir
use Rattle.lowering.specs.Complexifier.{load_const}
use Rattle.complexifier.specs.Does.{made}
use Rattle.complexifier.proofs.state.Complexifier.load_const.Goals as goal

pub returns : goal.returns
unfolding load_const
returns c = made (mir.load_const (re _) _ ∷ []) _ true c.load_const_lines.ensures c.set_reg_real.ensures
