-- What was counted and what is left are all.
use Rattle.std.proofs.Common.{◌≡◌, ◌+◌, ◌-◌, ◌≤◌}
use Rattle.compare_stores.specs.Differences.{differing}
use Rattle.compare_stores.proofs.count_differences.Given as goal

abbrev pub invariant-loop-i : goal.invariant-loop-i
invariant-loop-i l = (l.n ≤ l.i) × (l.n + differing l.one l.other (1602 - l.i) l.i ≡ differing l.one l.other 1602 0)
