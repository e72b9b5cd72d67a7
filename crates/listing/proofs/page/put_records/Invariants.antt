-- The invariant of `page::put_records`: with the lines that are left the whole text stands, and there is room for them.
use Rattle.std.proofs.Common.{◌+◌, ◌-◌, ◌*◌, ◌≤◌, length, drop}
use Rattle.mir.proofs.Decoding.{items}
use Rattle.records.specs.Record.{record_from}
use Rattle.text.specs.Text.{record_lines}
use Rattle.text.proofs.Putting.{Owes}
use Rattle.listing.proofs.page.put_records.Given as goal

abbrev pub invariant-loop-from : goal.invariant-loop-from
invariant-loop-from l =
    (l.at + 5 * (length l.listing - l.from) ≤ length l.out)
    × Owes l.fn.out l.start (record_lines (items (record_from l.count) l.listing)) l.out l.at (record_lines (items (record_from l.count) (drop l.from l.listing)))

abbrev pub decreases-loop-from : goal.decreases-loop-from
decreases-loop-from l = length l.listing - l.from
