-- The bytes that are left give what the whole list gives.
use Rattle.replay.specs.Tally.{replayed_list}
use Rattle.replay.proofs.Replaying.{Left}
use Rattle.replay.proofs.tally.Tally.replay.Given as goal

abbrev pub invariant-loop-i : goal.invariant-loop-i
invariant-loop-i g l =
    Left g.C.Replay.cases (replayed_list g.C.Replay.cases l.fn.self l.fn.list) l.i-end l.i l.self l.rest
