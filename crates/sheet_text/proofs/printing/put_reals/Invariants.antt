-- With the lines that are left the whole text stands, and there is room for them.
use Rattle.std.proofs.Common.{◌+◌, ◌-◌, ◌*◌, ◌≤◌, length}
use Rattle.assembly.specs.SheetText.{real_lines}
use Rattle.text.proofs.Putting.{Owes}
use Rattle.sheet_text.proofs.printing.put_reals.Given as goal

abbrev pub invariant-loop-i : goal.invariant-loop-i
invariant-loop-i l =
    (l.at ≤ l.start + 80 * l.i) × (l.start + 40960 ≤ length l.out)
    × Owes l.initial.out l.start (real_lines l.places 512 0) l.out l.at (real_lines l.places (512 - l.i) l.i)
