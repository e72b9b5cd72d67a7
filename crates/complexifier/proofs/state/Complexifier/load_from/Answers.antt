use Rattle.complexifier.specs.Does.{loaded}
use Rattle.complexifier.proofs.state.Complexifier.load_from.Goals as goal

pub returns : goal.returns
returns c = loaded _ _ c.is_real_loc-x.ensures c.load_lines.ensures c.set_reg.ensures
