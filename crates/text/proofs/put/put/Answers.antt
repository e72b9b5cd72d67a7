-- There is room for all of it, or there is none.
use Rattle.std.proofs.Common.{arith}
use Rattle.text.proofs.Putting.{stays, goes}
use Rattle.text.proofs.put.put.Goals as goal

pub returns-then-out-s : goal.returns-then-out-s
returns-then-out-s c = stays _ _ _ (omega arith)

pub returns : goal.returns
returns c = goes _ _ _ c.put.ensures (omega arith)
