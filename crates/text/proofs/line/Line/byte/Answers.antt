-- There is room for it, or there is none.
use Rattle.std.proofs.Common.{le-ltb, lt-ltb}
use Rattle.text.specs.Line.{added}
use Rattle.text.proofs.line.Line.byte.Goals as goal

pub returns-then-self-lt80 : goal.returns-then-self-lt80
unfolding added
returns-then-self-lt80 c = record { same = simp (lt-ltb _ _ c.if-self-lt80.true) }

pub returns-else-self-lt80 : goal.returns-else-self-lt80
unfolding added
returns-else-self-lt80 c = record { same = simp (le-ltb _ _ c.if-self-lt80.false) }
