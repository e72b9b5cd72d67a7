-- `case::numbers_agree` meets its contract: number, index, bytes written, then the count of constants. Assumes nothing.
use borrow.Author.Rules.{rules}
use borrow.Author.Tests.{eq-eqb, ne_eqb}
use Rattle.sheet_replay.specs.Case.{numbers_agree}
use Rattle.sheet_replay.proofs.Judging.{count-decides}
use Rattle.sheet_replay.proofs.case.numbers_agree.Statement.{statement}
use Rattle.sheet_replay.proofs.case.numbers_agree.Tie as tie

pub numbers_agree_spec : {M : Type 1} → statement M
unfolding numbers_agree
numbers_agree_spec =
    tie.close
    (tie.spec
    (λ c. search rules) (λ c κs. search rules)
    (λ c. simp (← c.count_at.ensures.0, ne_eqb _ _ c.if-a-count_at.true))
    (λ c κs. search rules)
    (λ c. simp (← c.count_at.ensures.0, eq-eqb _ _ c.if-a-count_at.false, ← c.count_at-2.ensures.0, ne_eqb _ _ c.if-a-count_at-2.true))
    (λ c κs. search rules)
    (λ c. simp (← c.count_at.ensures.0, eq-eqb _ _ c.if-a-count_at.false, ← c.count_at-2.ensures.0, eq-eqb _ _ c.if-a-count_at-2.false, ← c.count_at-3.ensures.0, ne_eqb _ _ c.if-a-count_at-3.true))
    (λ c κs. search rules)
    (λ c. count-decides c.args.s.now c.args.a c.count_at.ensures.0 c.if-a-count_at.false c.count_at-2.ensures.0 c.if-a-count_at-2.false c.count_at-3.ensures.0 c.if-a-count_at-3.false c.count_at-4.ensures.0))
