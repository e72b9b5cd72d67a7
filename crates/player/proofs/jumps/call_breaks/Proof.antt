-- `player::jumps::call_breaks` meets its contract.
use borrow.Author.Tests.{eq-eqb, ne_eqb}
use Rattle.player.proofs.jumps.call_breaks.Statement.{statement}
use Rattle.player.proofs.jumps.call_breaks.Tie as tie

pub call_breaks_spec : {M : Type 1} → statement M
call_breaks_spec =
    tie.close
    (tie.spec
    (λ c. simp (ne_eqb _ _ c.if-l-ne1.true))
    (λ c. simp (eq-eqb _ _ c.if-l-ne1.false, c.if-inside.true))
    (λ c. simp (eq-eqb _ _ c.if-l-ne1.false, c.if-inside.false)))
