-- The case differs, or it does not.
use Rattle.replay.specs.Tally.{tallied}
use Rattle.replay.proofs.tally.Tally.count.Goals as goal

pub returns-then-differs : goal.returns-then-differs
unfolding tallied
returns-then-differs c = simp (c.raise.ensures, c.if-differs.true)

pub returns-else-differs : goal.returns-else-differs
unfolding tallied
returns-else-differs c = simp (c.raise.ensures, c.if-differs.false)
