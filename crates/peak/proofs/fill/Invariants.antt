-- The positions before i are done, and i - j is where their block starts.
use Rattle.std.proofs.Common.{◌≡◌, ◌-◌, ◌≤◌, ◌<◌}
use lib.Seq.{slice}
use Rattle.peak.specs.Peak.{largest, filled}
use Rattle.peak.specs.Blocks.{Tails}
use Rattle.peak.proofs.fill.Given as goal

abbrev pub invariant-loop-i : goal.invariant-loop-i
invariant-loop-i l = record {
  behind : l.j ≤ l.i;
  within : l.j < l.w;
  here : l.here ≡ largest (slice (l.i - l.j) l.i l.run);
  tails : Tails l.run l.w (l.i - l.j) l.tail;
  done : l.out ≡ filled l.run l.w l.i l.initial.out;
}
