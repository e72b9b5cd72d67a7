-- The invariant of `put_instructions`: with the lines that are left the whole text stands, and there is room for them.
use Rattle.std.proofs.Common.{◌+◌, ◌-◌, ◌*◌, ◌≤◌, length, drop}
use Rattle.text.proofs.Putting.{Owes}
use Rattle.sheet_text.proofs.Turns.{lines_on}
use Rattle.sheet_text.proofs.printing.put_instructions.Given as goal

abbrev pub invariant-loop-n : goal.invariant-loop-n
invariant-loop-n l =
    (l.at + 80 * (612 - l.n) ≤ length l.out)
    × Owes l.fn.out l.start (lines_on 0 l.count (drop l.first l.sheet)) l.out l.at (lines_on l.n l.count (drop l.from l.sheet))

abbrev pub decreases-loop-n : goal.decreases-loop-n
decreases-loop-n l = 612 - l.n
