-- `case::make_before` meets its contract: the words of the filled store are set. Assumes nothing.
use borrow.Author.Rules.{rules}
use Rattle.play_replay.proofs.Judging.{made-before}
use Rattle.play_replay.proofs.case.make_before.Statement.{statement}
use Rattle.play_replay.proofs.case.make_before.Tie as tie

pub make_before_spec : {M : Type 1} → statement M
make_before_spec =
    tie.close
    (tie.spec
    (λ c κs. search rules) (λ c. search rules) (λ c κs. search rules) (λ c κs. search rules) (λ c. search rules)
    (λ c. made-before _ c.requires.1 c.fill_at.ensures.0 c.count_at.ensures.0 c.patch.ensures))
