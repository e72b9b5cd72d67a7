-- `case::replay_case` meets its contract: the room has the case's lengths, and the stores are filled. Assumes nothing.
use mathlib.Core.Path.{sym, ◌∙◌}
use native.Mathlib.Omega.{arith}
use borrow.Author.Rules.{rules}
use lib.Seq.{length-take-le}
use Rattle.play_replay.proofs.Judging.{is-filled}
use Rattle.play_replay.proofs.case.replay_case.Statement.{statement}
use Rattle.play_replay.proofs.case.replay_case.Tie as tie

pub replay_case_spec : {M : Type 1} → statement M
replay_case_spec =
    tie.close
    (tie.spec
    (λ c κs. search rules) (λ c κs. search rules) (λ c κs. search rules) (λ c κs. search rules) (λ c. search rules)
    (λ c. sym (length-take-le c.count_at-count.result _ (omega arith)))
    (λ c. search rules)
    (λ c. sym (length-take-le c.count_at-words.result _ (omega arith)))
    (λ c. search rules)
    (λ c. sym (length-take-le c.count_at-words.result _ (omega arith)))
    (λ c κs. let f = is-filled _ c.count_at-words.ensures.0 (omega arith) c.fill_at.ensures.0 c.word_at-fill.ensures in (c.requires, (length-take-le c.count_at-count.result _ (omega arith) ∙ c.count_at-count.ensures.0, (f, f))))
    (λ c. search rules))
