-- `case::replay_in` meets its contract: what is made is what the case plays. Assumes nothing.
use borrow.Author.Rules.{rules}
use native.Mathlib.Omega.{arith}
use Rattle.play_replay.proofs.Judging.{loaded}
use Rattle.play_replay.proofs.case.replay_in.Statement.{statement}
use Rattle.play_replay.proofs.case.replay_in.Tie as tie

pub replay_in_spec : {M : Type 1} → statement M
replay_in_spec =
    tie.close
    (tie.spec
    (λ c κs. search rules) (λ c. search rules) (λ c κs. search rules) (λ c. search rules) (λ c. search rules) (λ c. search rules)
    (λ c κs. search rules) (λ c κs. search rules) (λ c κs. search rules)
    (λ c κs. let p = c.requires in (p.0, (loaded _ _ c.count_at-at.ensures.0 c.fill_at-end.ensures.0 p.1.0 (omega arith) c.load.ensures, (c.make_before.ensures, c.make_after.ensures))))
    (λ c. search rules) (λ c. search rules) (λ c. search rules)
    (λ c. search rules))
