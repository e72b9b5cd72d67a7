-- `cases::is_cut` meets its contract: each test by its law. Assumes nothing.
use Rattle.std.proofs.Common.{rules, le-ltb, lt-ltb}
use Rattle.replay.specs.Whole.{cut_at}
use Rattle.replay.proofs.Replaying.{end-decides}
use Rattle.replay.proofs.cases.is_cut.Statement.{statement}
use Rattle.replay.proofs.cases.is_cut.Tie as tie

pub is_cut_spec : {M : Type 1} → statement M
unfolding cut_at
is_cut_spec =
    tie.close
    (tie.spec
    (λ c. simp (lt-ltb _ _ c.if-s-head.true))
    (λ c κs. search rules)
    (λ c. simp (le-ltb _ _ c.if-s-head.false, ← c.count_at.ensures.0, lt-ltb _ _ c.if-first-count_at.true))
    (λ c κs. search rules)
    (λ c. simp (le-ltb _ _ c.if-s-head.false, ← c.count_at.ensures.0, le-ltb _ _ c.if-first-count_at.false, ← c.count_at-2.ensures.0, lt-ltb _ _ c.if-second-count_at.true))
    (λ c. end-decides _ _ _ _ _ c.if-s-head.false c.count_at.ensures.0 c.if-first-count_at.false c.count_at-2.ensures.0 c.if-second-count_at.false))
