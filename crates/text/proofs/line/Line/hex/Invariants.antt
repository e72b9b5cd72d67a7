-- The digits before the last k are added.
use Rattle.std.proofs.Common.{◌-◌, ◌*◌, ◌/◌, ◌^◌}
use Rattle.text.specs.Line.{Adds}
use Rattle.text.specs.Text.{hex_in}
use Rattle.text.proofs.line.Line.hex.Given as goal

abbrev pub invariant-loop-k : goal.invariant-loop-k
invariant-loop-k l = Adds l.initial.line (hex_in (16 - l.k) (l.word / 2 ^ (4 * l.k))) l.line
