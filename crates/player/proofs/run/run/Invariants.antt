-- What was played, and the play from here, are the whole play.
use Rattle.std.proofs.Common.{◌≡◌, ◌-◌, ◌*◌, ◌≤◌, length}
use Rattle.player_machine.specs.Machine.{ticks}
use Rattle.player.specs.Positions.{on_from, fault}
use Rattle.player.proofs.run.run.Given as goal

abbrev pub invariant-loop-at : goal.invariant-loop-at
invariant-loop-at l = record {
  few : l.played ≤ 65602 * l.at;
  same : ticks l.played (on_from l.constants l.listing l.body l.at l.store) ≡ on_from l.constants l.listing l.body l.fn.start l.initial.store;
  sound : fault (length l.constants) l.listing l.at ≡ 0;
}

abbrev pub decreases-loop-at : goal.decreases-loop-at
decreases-loop-at l = length l.listing - l.at
