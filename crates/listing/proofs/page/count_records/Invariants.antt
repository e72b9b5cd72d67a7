-- The invariant of `page::count_records`: what was counted, and what stands behind the position, are the whole listing's.
use Rattle.std.proofs.Common.{◌≡◌, ◌+◌, ◌-◌, ◌≤◌, length, drop}
use Rattle.mir.proofs.Decoding.{items}
use Rattle.records.specs.Record.{record_from}
use Rattle.listing.proofs.page.count_records.Given as goal

abbrev pub invariant-loop-at : goal.invariant-loop-at
invariant-loop-at l =
    (l.n ≤ l.at) × (l.n + length (items (record_from l.count) (drop l.at l.listing)) ≡ length (items (record_from l.count) l.listing))

abbrev pub decreases-loop-at : goal.decreases-loop-at
decreases-loop-at l = length l.listing - l.at
