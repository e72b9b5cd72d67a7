-- What is stored from j on, and the best of the words from j on.
use Rattle.std.proofs.Common.{ℕ, ◌≡◌, ◌+◌, ◌-◌, ◌≤◌, ◌<◌, get_or}
use lib.Seq.{slice}
use Rattle.peak.specs.Peak.{largest}
use Rattle.peak.proofs.tails.Given as goal

abbrev pub invariant-loop-j : goal.invariant-loop-j
invariant-loop-j l = record {
  best : l.best ≡ largest (slice (l.s + l.j - l.w) l.s l.run);
  stored : (k : ℕ) → l.j ≤ k → k < l.w → get_or l.tail k 0 ≡ largest (slice (l.s + k + 1 - l.w) l.s l.run);
}
