-- `case::replay_case` meets its contract: the slices have the case's lengths. Assumes nothing.
use borrow.Author.Rules.{rules}
use native.Mathlib.Omega.{arith}
use mathlib.Core.Path.{sym}
use lib.Seq.{length-take-le}
use Rattle.sheet_replay.proofs.Judging.{lent}
use Rattle.sheet_replay.proofs.case.replay_case.Statement.{statement}
use Rattle.sheet_replay.proofs.case.replay_case.Tie as tie

pub replay_case_spec : {M : Type 1} → statement M
replay_case_spec =
    tie.close
    (tie.spec
    (λ c κs. search rules) (λ c κs. search rules) (λ c κs. search rules) (λ c κs. search rules) (λ c κs. search rules)
    (λ c κs. search rules) (λ c. search rules)
    (λ c. sym (length-take-le c.count_at-n.result _ (omega arith)))
    (λ c. search rules)
    (λ c. sym (length-take-le c.count_at-m.result _ (omega arith)))
    (λ c. search rules)
    (λ c. sym (length-take-le c.count_at-n.result _ (omega arith)))
    (λ c. search rules)
    (λ c. sym (length-take-le c.count_at-m.result _ (omega arith)))
    (λ c κs.
    let n = c.count_at-n.ensures.0 in
    let m = c.count_at-m.ensures.0 in
    (c.requires, (lent _ n m (omega arith) (omega arith) c.all_bytes-listing.ensures.0 c.all_words-constants.ensures.0, lent _ n m (omega arith) (omega arith) c.all_bytes-bytes.ensures.0 c.all_words-words.ensures.0)))
    (λ c. search rules))
