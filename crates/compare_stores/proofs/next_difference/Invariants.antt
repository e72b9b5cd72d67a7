-- The search from the present index finds what the search from the first finds.
use Rattle.std.proofs.Common.{◌≡◌}
use Rattle.compare_stores.specs.Differences.{next_difference}
use Rattle.compare_stores.proofs.next_difference.Given as goal

abbrev pub invariant-loop-i : goal.invariant-loop-i
invariant-loop-i l = next_difference l.one l.other l.i ≡ next_difference l.one l.other l.from
