-- Marks before the index at hand are made, the others as before.
use Rattle.marks.specs.Marks.{join, without}
use Rattle.marks_pass.specs.Standing.{Made, held}
use Rattle.marks_pass.proofs.steps.call.Given as goal

abbrev pub invariant-loop-i : goal.invariant-loop-i
invariant-loop-i l = record {
  filled : Made 0 l.i (join (held l.initial.filled) (held l.fills)) l.initial.filled l.filled;
  drawn : Made 0 l.i (join (held l.initial.drawn) (without (held l.draws) (held l.initial.filled))) l.initial.drawn l.drawn;
}
