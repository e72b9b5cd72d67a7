-- `case::lower_case` meets its contract. Assumes nothing.
use borrow.Author.Rules.{rules}
use Rattle.sheet_replay.proofs.case.lower_case.Statement.{statement}
use Rattle.sheet_replay.proofs.case.lower_case.Tie as tie

pub lower_case_spec : {M : Type 1} → statement M
lower_case_spec =
    tie.close
    (tie.spec
    (λ c. search rules) (λ c κs. search rules) (λ c. search rules) (λ c. search rules)
    (λ c. let e = c.lower.ensures in (e.0, e.1, e.2)))
