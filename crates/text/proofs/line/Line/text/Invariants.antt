-- The line with what is left to add is all that is to be.
use Rattle.std.proofs.Common.{◌≡◌, drop}
use Rattle.text.specs.Line.{add_all}
use Rattle.text.proofs.line.Line.text.Given as goal

abbrev pub invariant-loop-b : goal.invariant-loop-b
invariant-loop-b l = add_all l.line (drop l.b-index l.s) ≡ add_all l.initial.line l.s
