-- The invariant of `examined`: what was counted, and what stands behind the position, are the whole.
use Rattle.std.proofs.Common.{◌-◌, length}
use Rattle.sheet_text.proofs.Turns.{Counted}
use Rattle.sheet_text.proofs.printing.examined.Given as goal

abbrev pub invariant-loop-at : goal.invariant-loop-at
invariant-loop-at l = Counted l.count l.sheet l.first l.at l.n

abbrev pub decreases-loop-at : goal.decreases-loop-at
decreases-loop-at l = length l.sheet - l.at
