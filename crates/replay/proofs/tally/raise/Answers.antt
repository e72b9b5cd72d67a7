-- The count and one, modulo 2 ^ 64; past the end nothing is stored.
use Rattle.std.proofs.Common.{refl, sym, arith}
use lib.Seq.{set_out}
use Rattle.replay.specs.Tally.{raised}
use Rattle.replay.proofs.tally.raise.Goals as goal

pub returns-then-i-t : goal.returns-then-i-t
unfolding raised
returns-then-i-t c = refl

pub returns-else-i-t : goal.returns-else-i-t
unfolding raised
returns-else-i-t c = sym (set_out _ _ _ (omega arith))
