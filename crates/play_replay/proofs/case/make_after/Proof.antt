-- `case::make_after` meets its contract: the store before, and the words changed. Assumes nothing.
use borrow.Author.Rules.{rules}
use Rattle.play_replay.proofs.Judging.{made_after}
use Rattle.play_replay.proofs.case.make_after.Statement.{statement}
use Rattle.play_replay.proofs.case.make_after.Tie as tie

pub make_after_spec : {M : Type 1} → statement M
make_after_spec =
    tie.close
    (tie.spec
    (λ c κs. search rules) (λ c κs. search rules) (λ c κs. search rules) (λ c κs. search rules) (λ c. search rules)
    (λ c. made_after _ c.make_before.ensures c.changed_at.ensures.0 c.count_at.ensures.0 c.patch.ensures))
