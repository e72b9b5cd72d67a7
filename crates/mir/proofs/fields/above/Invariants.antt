-- The invariant of `mir::fields::above`: what is left of the run decides as the whole run does.
use Rattle.std.proofs.Common.{◌≡◌, ◌+◌, ◌-◌}
use Rattle.mir.specs.Read.{above}
use Rattle.mir.specs.Field.{bytes_at}
use Rattle.mir.proofs.fields.above.Given as goal

abbrev pub invariant-loop-at : goal.invariant-loop-at
invariant-loop-at l = above l.last (bytes_at l.s l.at (l.i + l.n - l.at)) ≡ above l.last (bytes_at l.s l.i l.n)
