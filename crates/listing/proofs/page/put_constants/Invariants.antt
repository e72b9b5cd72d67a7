-- With the lines that are left the whole text stands, and there is room for them.
use Rattle.std.proofs.Common.{◌+◌, ◌-◌, ◌*◌, ◌≤◌, length}
use Rattle.std.proofs.Math.ListN.{drop}
use Rattle.text.specs.Text.{constant_lines}
use Rattle.text.proofs.Putting.{Owes}
use Rattle.listing.proofs.page.put_constants.Given as goal

abbrev pub invariant-loop-i : goal.invariant-loop-i
invariant-loop-i l =
    (l.at + 80 * (length l.constants - l.i) ≤ length l.out)
    × Owes l.initial.out l.start (constant_lines 0 l.constants) l.out l.at (constant_lines l.i (drop l.i l.constants))
