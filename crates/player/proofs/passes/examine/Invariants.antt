-- The invariant of `player::passes::examine`: what was counted, and what is left from here, are the whole listing's.
use Rattle.std.proofs.Common.{◌≡◌, ◌+◌, ◌-◌, ◌≤◌, length}
use Rattle.player_machine.specs.Jumps.{is_jump, tally}
use Rattle.player.specs.Positions.{left, fault}
use Rattle.player.proofs.Walks.{Noted}
use Rattle.player.proofs.passes.examine.Given as goal

abbrev pub invariant-loop-at : goal.invariant-loop-at
invariant-loop-at l =
    ((l.index ≤ l.at) × (l.jumps ≤ l.at))
    × (l.index + length (left l.count l.listing l.at) ≡ length (left l.count l.listing 0))
    × (fault l.count l.listing l.at ≡ fault l.count l.listing 0)
    × (l.jumps + tally is_jump (left l.count l.listing l.at) ≡ tally is_jump (left l.count l.listing 0))
    × Noted l.count l.listing l.at l.body

abbrev pub decreases-loop-at : goal.decreases-loop-at
decreases-loop-at l = length l.listing - l.at
