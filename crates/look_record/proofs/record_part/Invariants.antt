-- The invariant of `look_record::record_part`: the record that is sought from here is the one with the index.
use Rattle.std.proofs.Common.{◌≡◌, ◌-◌, length, drop}
use lib.ListN.{get_elem?}
use Rattle.mir.proofs.Decoding.{items}
use Rattle.records.specs.Record.{record_from}
use Rattle.look_record.proofs.record_part.Given as goal

abbrev pub invariant-loop-at : goal.invariant-loop-at
invariant-loop-at l = get_elem? (items (record_from l.count) (drop l.at l.listing)) l.left ≡ get_elem? (items (record_from l.count) l.listing) l.start

abbrev pub decreases-loop-at : goal.decreases-loop-at
decreases-loop-at l = length l.listing - l.at
