-- What is passed over does not move the end.
use Rattle.std.proofs.Common.{◌≡◌, ◌+◌, ◌≤◌, max, length, drop}
use Rattle.assembly.specs.Reading.{run}
use Rattle.assembly.proofs.reading.run_end.Given as goal

abbrev pub invariant-loop-i : goal.invariant-loop-i
invariant-loop-i l = record {
  near : l.i ≤ max l.at (length l.s);
  same : l.i + run l.k (drop l.i l.s) ≡ l.at + run l.k (drop l.at l.s);
}
