-- The best so far, with the points that are left, gives the best of all.
use Rattle.std.proofs.Common.{◌≡◌, ◌*◌, drop}
use lib.Dec.{T}
use lib.Ieee.{binary64, fits}
use Rattle.nearest.specs.Nearest.{candidates, not_farther, fold, best_of}
use Rattle.nearest.proofs.Distances.{held}
use Rattle.nearest.proofs.search.Given as goal

abbrev pub invariant-loop-i : goal.invariant-loop-i
invariant-loop-i l = record {
  number : T (fits binary64 l.least);
  best : fold not_farther (held l.index l.least) (candidates l.re l.im l.i (drop (2 * l.i) l.points)) ≡ best_of not_farther l.re l.im l.points;
}
