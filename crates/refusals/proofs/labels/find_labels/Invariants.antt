-- The labels before the position are marked, and those behind it are the others.
use Rattle.std.proofs.Common.{◌-◌, length, drop}
use Rattle.refusals.specs.Noted.{seen_in}
use Rattle.refusals.proofs.Searching.{Halfway}
use Rattle.refusals.proofs.labels.find_labels.Given as goal

abbrev pub invariant-loop-at : goal.invariant-loop-at
invariant-loop-at l = Halfway (seen_in (drop l.start l.sheet)) l.initial.marks l.initial.any (seen_in (drop l.at l.sheet)) l.marks l.any

abbrev pub decreases-loop-at : goal.decreases-loop-at
decreases-loop-at l = length l.sheet - l.at
