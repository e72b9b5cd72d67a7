use Rattle.complexifier.specs.Does.{directs}
use Rattle.complexifier.proofs.state.Complexifier.set_label.Goals as goal

pub returns : goal.returns
returns c = directs _ c.push_label.ensures
