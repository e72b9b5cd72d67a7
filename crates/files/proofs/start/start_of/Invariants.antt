-- What the digits behind the position spell after the number so far is the whole.
use Rattle.std.proofs.Common.{◌≡◌}
use Rattle.std.proofs.Math.ListN.{drop}
use Rattle.files.specs.Start.{start_from}
use Rattle.files.proofs.start.start_of.Given as goal

abbrev pub invariant-loop-b : goal.invariant-loop-b
invariant-loop-b l = start_from l.n (drop l.b-index l.s) ≡ start_from 0 l.s
