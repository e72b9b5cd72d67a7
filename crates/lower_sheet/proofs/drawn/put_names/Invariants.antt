-- With the names that are left the whole text stands, and there is room for them.
use Rattle.std.proofs.Common.{◌+◌, ◌*◌, ◌≤◌, length}
use Rattle.std.proofs.Math.ListN.{drop}
use Rattle.text.proofs.Putting.{Owes}
use Rattle.lower_sheet.specs.Lowers.{marked_names}
use Rattle.lower_sheet.proofs.drawn.put_names.Given as goal

abbrev pub invariant-loop-i : goal.invariant-loop-i
invariant-loop-i l =
    (l.at ≤ l.start + 80 * l.i) × (l.start + 80 * length l.marks ≤ length l.out)
    × Owes l.initial.out l.start (marked_names 0 l.marks) l.out l.at (marked_names l.i (drop l.i l.marks))
