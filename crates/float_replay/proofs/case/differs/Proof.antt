-- `case::differs` meets its contract: an operation's number above 34 differs by definition; below, the words are the case's and the result is the answer.
-- Assumes nothing.
use borrow.Author.Rules.{rules}
use borrow.Author.Tests.{lt-ltb, le-ltb}
use Rattle.float_replay.specs.Case.{differs}
use Rattle.float_replay.proofs.case.differs.Statement.{statement}
use Rattle.float_replay.proofs.case.differs.Tie as tie

pub differs_spec : {M : Type 1} → statement M
unfolding differs
differs_spec =
    tie.close
    (tie.spec
    (λ c. search rules)
    (λ c. simp (le-ltb _ 35 c.if-op-ge35.true))
    (λ c κs. search rules) (λ c κs. search rules) (λ c κs. search rules) (λ c κs. search rules) (λ c κs. search rules)
    (λ c κs. search rules)
    (λ c.
    simp (
      lt-ltb _ 35 c.if-op-ge35.false,
      c.result-r.ensures,
      c.word_at.ensures,
      c.word_at-2.ensures,
      c.word_at-3.ensures,
      c.word_at-4.ensures,
      c.word_at-5.ensures,
    )))
