-- `look::call::tulipcricket_look_unguarded` meets its contract.
use borrow.Author.Rules.{rules}
use borrow.Author.Tests.{eq-eqb, ne_eqb}
use native.Mathlib.Omega.{arith}
use mathlib.Core.Path.{refl}
use lib.ListN.{length}
use Rattle.look.specs.Call.{look_call, wrong_setup}
use Rattle.look.proofs.Calls.{wrong, looked}
use Rattle.look.proofs.call.tulipcricket_look_unguarded.Statement.{statement}
use Rattle.look.proofs.call.tulipcricket_look_unguarded.Tie as tie

pub tulipcricket_look_unguarded_spec : {M : Type 1} → statement M
unfolding look_call
tulipcricket_look_unguarded_spec =
    tie.close
    (tie.spec
    (λ c. simp (ne_eqb _ _ c.if-answer-ne64.true))
    (λ c κs. search rules) (λ c κs. search rules) (λ c. search rules)
    (λ c. let a = c.args in wrong a.listing.now a.constants.now a.store.now a.start a.answer.now c.if-answer-ne64.false (simp (ne_eqb _ _ c.if-constants-ne0.true)) c.unshown.ensures c.tell.ensures)
    (λ c κs. search rules) (λ c κs. search rules) (λ c. search rules)
    (λ c. let a = c.args in wrong a.listing.now a.constants.now a.store.now a.start a.answer.now c.if-answer-ne64.false {a = wrong_setup} (simp (eq-eqb _ _ c.if-constants-ne0.false, ne_eqb (length a.store.now) 12816 (λ z. omega (arith, z)))) refl ((cc), (cc)))
    (λ c. search rules) (λ c κs. search rules) (λ c. search rules) (λ c κs. search rules) (λ c κs. search rules) (λ c. search rules)
    (λ c. let a = c.args in looked a.listing.now a.constants.now a.store.now a.start a.answer.now c.if-answer-ne64.false _ c.if-constants-ne0.false (omega arith) (search rules) c.load.ensures c.look_words-a.ensures c.tell-2.ensures))
