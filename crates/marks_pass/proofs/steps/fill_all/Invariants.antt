-- Marks before the index at hand are made, the others as before.
use Rattle.marks.specs.Marks.{everything}
use Rattle.marks_pass.specs.Standing.{Made}
use Rattle.marks_pass.proofs.steps.fill_all.Given as goal

abbrev pub invariant-loop-i : goal.invariant-loop-i
invariant-loop-i l = Made 0 l.i everything l.initial.filled l.filled
