-- `player::passes::block_start` meets its contract.
use borrow.Author.Tests.{eq-eqb, ne_eqb}
use Rattle.player.proofs.passes.block_start.Statement.{statement}
use Rattle.player.proofs.passes.block_start.Tie as tie

pub block_start_spec : {M : Type 1} → statement M
block_start_spec =
    tie.close
    (tie.spec
    (λ c. simp (c.if-label.true, eq-eqb _ _ c.if-body-end.true))
    (λ c. simp (c.if-label.true, ne_eqb _ _ c.if-body-end.false))
    (λ c. simp c.if-label.false))
