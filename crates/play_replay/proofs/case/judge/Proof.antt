-- `case::judge` meets its contract: what the player gives is the machine's answer to the case. Assumes nothing.
use mathlib.Core.Bool.{not}
use mathlib.Core.Path.{ap, ◌∙◌}
use borrow.Author.Rules.{rules}
use Rattle.player_machine.specs.Answer.{Answer}
use Rattle.play_replay.specs.Case.{expected}
use Rattle.play_replay.proofs.Judging.{is-answered}
use Rattle.play_replay.proofs.case.judge.Statement.{statement}
use Rattle.play_replay.proofs.case.judge.Tie as tie

pub judge_spec : {M : Type 1} → statement M
judge_spec =
    tie.close
    (tie.spec
    (λ c κs. search rules) (λ c. search rules) (λ c κs. search rules) (λ c. search rules) (λ c. search rules) (λ c. search rules)
    (λ c κs. search rules) (λ c κs. search rules) (λ c. search rules)
    (λ c.
    let e = is-answered _ c.count_at-listing_end.ensures.0 c.requires.1.0 c.word_at-start.ensures c.requires.1.1.0 c.play-a.ensures in
    (ap (λ (a : Answer). a.number) e, ap not (c.agrees-agreed.ensures ∙ ap (expected _) e))))
