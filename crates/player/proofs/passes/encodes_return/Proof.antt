-- `player::passes::encodes_return` meets its contract.
use borrow.Author.Rules.{rules}
use mathlib.Core.Path.{sym, ap, ◌∙◌}
use lib.Dec.{eqb}
use Rattle.player.proofs.Encoding.{return_at, return_of}
use Rattle.player.proofs.passes.encodes_return.Statement.{statement}
use Rattle.player.proofs.passes.encodes_return.Tie as tie

pub encodes_return_spec : {M : Type 1} → statement M
encodes_return_spec =
    tie.close
    (tie.spec
    (λ c κs. search rules) (λ c κs. search rules)
    (λ c. ap (λ l. eqb l 0) c.byte.ensures ∙ sym (return_at _ (sym c.u16_at.ensures ∙ c.if-u16_at-eq15.true)))
    (λ c. sym (return_of _ (λ e. c.if-u16_at-eq15.false (c.u16_at.ensures ∙ e)))))
