use Rattle.complexifier.specs.Does.{directs}
use Rattle.complexifier.proofs.state.Complexifier.branch_if.Goals as goal

pub returns : goal.returns
returns c = directs _ (rw c.re.ensures at c.push_branch_if.ensures)
