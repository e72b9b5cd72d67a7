-- Marks before the index at hand are made, the others as before.
use Rattle.std.proofs.Common.{◌+◌, ◌&&◌, false, get_or}
use Rattle.marks_pass.specs.Standing.{Made}
use Rattle.marks_pass.proofs.steps.enter_at.Given as goal

abbrev pub invariant-loop-i : goal.invariant-loop-i
invariant-loop-i l = Made 0 l.i (λ k. get_or l.initial.filled k false && get_or l.ways (l.from + k) false) l.initial.filled l.filled
