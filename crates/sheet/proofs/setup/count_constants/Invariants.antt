-- The invariant of `sheet::setup::count_constants`: the count so far with what is left to count is the whole answer.
use Rattle.std.proofs.Common.{◌≡◌, ◌*◌, ◌≤◌, length}
use Rattle.sheet.specs.Setup.{constants_from}
use Rattle.sheet.proofs.Counting.{left}
use Rattle.sheet.proofs.setup.count_constants.Given as goal

abbrev pub invariant-loop-n : goal.invariant-loop-n
invariant-loop-n l = (12 * l.n ≤ length l.s) × (left l.s l.n (12 * l.n) ≡ constants_from 251 l.s)
