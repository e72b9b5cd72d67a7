-- `tally::tally` meets its contract, where the case differs and where it does not.
-- Assumes nothing.
use borrow.Author.Rules.{rules}
use Rattle.float_replay.specs.Tally.{tallied}
use Rattle.float_replay.proofs.tally.tally.Statement.{statement}
use Rattle.float_replay.proofs.tally.tally.Tie as tie

pub tally_spec : {M : Type 1} → statement M
unfolding tallied
tally_spec =
    tie.close
    (tie.spec
    (λ c. search rules) (λ c κs. search rules) (λ c. search rules) (λ c. search rules) (λ c κs. search rules)
    (λ c. simp (c.if-d.true, c.raise-then-d.ensures, c.raise.ensures))
    (λ c. simp (c.if-d.false, c.raise.ensures)))
