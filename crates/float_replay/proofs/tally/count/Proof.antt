-- `tally::count` meets its contract: the case is counted at its operation's slot and among all, with what `differs` found.
-- Assumes nothing.
use borrow.Author.Rules.{rules}
use Rattle.float_replay.specs.Tally.{counted}
use Rattle.float_replay.proofs.tally.count.Statement.{statement}
use Rattle.float_replay.proofs.tally.count.Tie as tie

pub count_spec : {M : Type 1} → statement M
unfolding counted
count_spec =
    tie.close
    (tie.spec
    (λ c κs. search rules) (λ c. search rules) (λ c κs. search rules) (λ c κs. search rules) (λ c κs. search rules)
    (λ c. cc))
