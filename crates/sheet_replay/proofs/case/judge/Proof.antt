-- `case::judge` meets its contract: what lowering gives is the definition's answer to the case. Assumes nothing.
use borrow.Author.Rules.{rules}
use Rattle.sheet_replay.proofs.Judging.{bytes-made, words-made, judged}
use Rattle.sheet_replay.proofs.case.judge.Statement.{statement}
use Rattle.sheet_replay.proofs.case.judge.Tie as tie

pub judge_spec : {M : Type 1} → statement M
judge_spec =
    tie.close
    (tie.spec
    (λ c κs. search rules) (λ c κs. search rules) (λ c κs. search rules) (λ c. search rules) (λ c. search rules) (λ c. search rules)
    (λ c κs. search rules) (λ c. search rules) (λ c. search rules) (λ c. search rules) (λ c κs. search rules) (λ c. search rules)
    (λ c. search rules) (λ c. search rules) (λ c κs. search rules)
    (λ c κs.
    let a = c.listing_at-at.ensures.0 in
    let r = c.constants_at-row.ensures.0 in
    let p = c.requires in
    (p.0.long, (bytes-made _ a r p.1.1 c.put.ensures, words-made _ a r p.1.1 c.end-stop.ensures c.load.ensures)))
    (λ c. search rules) (λ c. search rules) (λ c. search rules) (λ c. search rules)
    (λ c. let g = c.lower_case-a.ensures in judged _ c.listing_at-at.ensures.0 c.requires.1.0 g.0 g.1 g.2 c.agrees-agreed.ensures))
