-- With the lines that are left the whole text stands, and there is room for them.
use Rattle.std.proofs.Common.{◌+◌, ◌-◌, ◌*◌, ◌≤◌, length}
use Rattle.sheet.specs.Setup.{constants_of, constants_from_on}
use Rattle.assembly.specs.SheetText.{constant_lines}
use Rattle.text.proofs.Putting.{Owes}
use Rattle.sheet_text.proofs.printing.put_constants.Given as goal

abbrev pub invariant-loop-i : goal.invariant-loop-i
invariant-loop-i l =
    (l.at ≤ l.start + 80 * l.i) × (l.start + 80 * l.count ≤ length l.out)
    × Owes l.initial.out l.start (constant_lines (constants_of l.sheet l.count)) l.out l.at
    (constant_lines (constants_from_on l.sheet (l.count - l.i) l.i))
