-- Marks before the index at hand are made, the others as before.
use Rattle.std.proofs.Common.{◌-◌, ◌&&◌, false, get_or}
use Rattle.marks_pass.specs.Standing.{Made}
use Rattle.marks_pass.proofs.steps.note_at.Given as goal

abbrev pub invariant-loop-i : goal.invariant-loop-i
invariant-loop-i l = Made l.from l.i (λ k. get_or l.initial.ways k false && get_or l.filled (k - l.from) false) l.initial.ways l.ways
