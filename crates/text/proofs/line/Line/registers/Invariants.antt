-- The line with what is left to add is all that is to be.
use Rattle.std.proofs.Common.{◌≡◌, drop}
use Rattle.text.specs.Line.{add_all}
use Rattle.text.specs.Text.{registers}
use Rattle.text.proofs.line.Line.registers.Given as goal

abbrev pub invariant-loop-r : goal.invariant-loop-r
invariant-loop-r l = add_all l.line (registers (drop l.r-index l.rs)) ≡ add_all l.initial.line (registers l.rs)
