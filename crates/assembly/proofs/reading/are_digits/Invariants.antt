-- All before are digits.
use Rattle.std.proofs.Common.{◌≡◌, drop}
use Rattle.assembly.specs.Assembled.{are_digits}
use Rattle.assembly.proofs.reading.are_digits.Given as goal

abbrev pub invariant-loop-b : goal.invariant-loop-b
invariant-loop-b l = are_digits (drop l.b-index l.w) ≡ are_digits l.w
