-- `interface::tulipcricket_play_unguarded` meets its contract: each refusal by its tests, and the play by one law.
use borrow.Author.Rules.{rules}
use borrow.Author.Tests.{eq-eqb, ne_eqb}
use Rattle.interface.specs.Calls.{play_call}
use Rattle.interface.proofs.Playing.{wrong, played}
use Rattle.interface.proofs.tulipcricket_play_unguarded.Statement.{statement}
use Rattle.interface.proofs.tulipcricket_play_unguarded.Tie as tie

pub tulipcricket_play_unguarded_spec : {M : Type 1} → statement M
unfolding play_call
tulipcricket_play_unguarded_spec =
    tie.close
    (tie.spec
    (λ c. simp (ne_eqb _ _ c.if-answer-ne24.true))
    (λ c κs. search rules) (λ c. search rules)
    (λ c.
    let a = c.args in
    let p = c.refuse_play.ensures in
    wrong a.listing.now a.constants.now a.store.now a.start a.answer.now c.if-answer-ne24.false
    (simp (ne_eqb _ _ c.if-constants-ne0.true)) p.0 p.1)
    (λ c κs. search rules) (λ c. search rules)
    (λ c.
    let a = c.args in
    let p = c.refuse_play-then-store-ne12816.ensures in
    wrong a.listing.now a.constants.now a.store.now a.start a.answer.now c.if-answer-ne24.false
    (simp (eq-eqb _ _ c.if-constants-ne0.false, ne_eqb _ _ c.if-store-ne12816.true)) p.0 p.1)
    (λ c. search rules) (λ c κs. search rules) (λ c. search rules) (λ c κs. search rules) (λ c. search rules) (λ c κs. search rules)
    (λ c. search rules) (λ c. search rules) (λ c κs. search rules) (λ c. search rules) (λ c. search rules) (λ c. search rules)
    (λ c.
    let a = c.args in
    let p = c.play_words-a in
    played a.listing.now a.constants.now a.store.now a.start a.answer.now c.if-answer-ne24.false _ p.result c.if-constants-ne0.false
    c.if-store-ne12816.false (search rules) c.load.ensures p.ensures (search rules) c.save.ensures c.save-2.ensures))
