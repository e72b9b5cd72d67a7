-- `player::jumps::block_open` meets its contract.
use borrow.Author.Rules.{rules}
use mathlib.Core.Path.{sym, ◌∙◌}
use Rattle.player.proofs.jumps.block_open.Statement.{statement}
use Rattle.player.proofs.jumps.block_open.Tie as tie

pub block_open_spec : {M : Type 1} → statement M
block_open_spec =
    tie.close
    (tie.spec
    (λ c κs. search rules)
    (λ c. simp (sym c.encodes_label.ensures ∙ c.if-encodes_label.true))
    (λ c κs. search rules)
    (λ c. simp (sym c.encodes_label.ensures ∙ c.if-encodes_label.false, sym c.encodes_return.ensures ∙ c.if-encodes_return.true))
    (λ c. simp (sym c.encodes_label.ensures ∙ c.if-encodes_label.false, sym c.encodes_return.ensures ∙ c.if-encodes_return.false)))
