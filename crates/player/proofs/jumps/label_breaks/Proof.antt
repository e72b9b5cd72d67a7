-- `player::jumps::label_breaks` meets its contract.
use borrow.Author.Tests.{eq-eqb, ne_eqb}
use Rattle.player.proofs.jumps.label_breaks.Statement.{statement}
use Rattle.player.proofs.jumps.label_breaks.Tie as tie

pub label_breaks_spec : {M : Type 1} → statement M
label_breaks_spec =
    tie.close
    (tie.spec
    (λ c. simp (eq-eqb _ _ c.if-l-eq0.true))
    (λ c. simp (ne_eqb _ _ c.if-l-eq0.false, c.if-stood.true))
    (λ c. simp (ne_eqb _ _ c.if-l-eq0.false, c.if-stood.false, c.if-inside.true))
    (λ c. simp (ne_eqb _ _ c.if-l-eq0.false, c.if-stood.false, c.if-inside.false, eq-eqb _ _ c.if-l-eq1.true))
    (λ c. simp (ne_eqb _ _ c.if-l-eq0.false, c.if-stood.false, c.if-inside.false, ne_eqb _ _ c.if-l-eq1.false)))
