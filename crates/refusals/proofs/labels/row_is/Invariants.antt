-- What is left to compare decides as the whole does.
use Rattle.std.proofs.Common.{◌≡◌, ◌+◌, ◌-◌, drop}
use Rattle.mir.specs.Field.{bytes_at}
use Rattle.lowering.specs.Labels.{bytes_same}
use Rattle.refusals.specs.Noted.{row}
use Rattle.refusals.proofs.labels.row_is.Given as goal

abbrev pub invariant-loop-i : goal.invariant-loop-i
invariant-loop-i l = bytes_same (bytes_at l.rows (l.at + l.i) (96 - l.i)) (drop l.i l.bytes) ≡ bytes_same (row l.label l.rows) l.bytes
