-- A list without a count, its beginning, a case that is not whole, one case more, and the end.
use Rattle.std.proofs.Common.{arith}
use Rattle.replay.proofs.Replaying.{no-count, begun, stopped, turned, ended}
use Rattle.replay.proofs.tally.Tally.replay.Goals as goal

pub returns-then-list-lt4 : goal.returns-then-list-lt4
returns-then-list-lt4 g c = no-count g.C.Replay.cases _ _ c.if-list-lt4.true

pub loop-i-init : goal.loop-i-init
loop-i-init g c = begun g.C.Replay.cases _ _ c.if-list-lt4.false c.count_at-i-end.ensures.0

pub returns-then-is_cut : goal.returns-then-is_cut
returns-then-is_cut g c = stopped c.loop-i.invariant c.loop-i-test.true c.end-end.ensures c.is_cut.ensures c.if-is_cut.true

pub loop-i-preserved : goal.loop-i-preserved
loop-i-preserved g c =
    turned c.loop-i.invariant c.loop-i-test.true c.end-end.ensures c.is_cut.ensures c.if-is_cut.false c.replay-outcome.ensures.0 c.replay-outcome.ensures.1 c.count.ensures

pub returns : goal.returns
returns g c = ended c.loop-i.invariant (omega arith) c.is_empty.ensures
