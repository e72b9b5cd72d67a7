-- Number, index and records played, then the store. Assumes nothing.
use Rattle.std.proofs.Common.{◌≡◌, ◌∙◌}
use borrow.Author.Tests.{eq-eqb, ne_eqb}
use Rattle.replay.specs.Same.{same}
use Rattle.replay.proofs.Sameness.{same_is}
use Rattle.play_replay.specs.Case.{expected}
use Rattle.play_replay.proofs.case.agrees.Goals as goal

pub returns-then-a-count_at : goal.returns-then-a-count_at
unfolding expected
returns-then-a-count_at c = simp (← c.count_at.ensures.0, ne_eqb _ _ c.if-a-count_at.true)

pub returns-then-a-word_at : goal.returns-then-a-word_at
unfolding expected
returns-then-a-word_at c = simp (← c.count_at.ensures.0, eq-eqb _ _ c.if-a-count_at.false, ← c.word_at.ensures, ne_eqb _ _ c.if-a-word_at.true)

pub returns-then-a-word_at-2 : goal.returns-then-a-word_at-2
unfolding expected
returns-then-a-word_at-2 c =
    simp (← c.count_at.ensures.0, eq-eqb _ _ c.if-a-count_at.false, ← c.word_at.ensures, eq-eqb _ _ c.if-a-word_at.false, ← c.word_at-2.ensures, ne_eqb _ _ c.if-a-word_at-2.true)

pub returns : goal.returns
unfolding expected
returns c =
    let e : c.eq.result ≡ same c.args.store.now c.args.after.now = c.eq.ensures ∙ same_is _ _ in
    simp (← c.count_at.ensures.0, eq-eqb _ _ c.if-a-count_at.false, ← c.word_at.ensures, eq-eqb _ _ c.if-a-word_at.false, ← c.word_at-2.ensures, eq-eqb _ _ c.if-a-word_at-2.false, e, c.requires)
