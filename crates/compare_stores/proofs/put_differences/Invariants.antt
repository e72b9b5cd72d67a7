-- With the lines that are left the whole text stands, and there is room for them.
use Rattle.std.proofs.Common.{◌+◌, ◌-◌, ◌*◌, ◌≤◌, length}
use Rattle.text.proofs.Putting.{Owes}
use Rattle.compare_stores.specs.Differences.{difference_lines}
use Rattle.compare_stores.proofs.put_differences.Given as goal

abbrev pub invariant-loop : goal.invariant-loop
invariant-loop l =
    (l.at + 80 * (l.most - l.counter) ≤ length l.out)
    × (l.at + 80 * (l.most - l.counter) ≤ 80 * l.most)
    × Owes l.initial.out 0 (difference_lines l.one l.other l.most 0) l.out l.at (difference_lines l.one l.other (l.most - l.counter) l.from)
