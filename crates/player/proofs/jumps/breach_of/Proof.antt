-- `player::jumps::breach_of` meets its contract.
use borrow.Author.Rules.{rules}
use mathlib.Core.Path.{sym, ◌∙◌}
use Rattle.player.proofs.Walks.{no_breach}
use Rattle.player.proofs.jumps.breach_of.Statement.{statement}
use Rattle.player.proofs.jumps.breach_of.Tie as tie

pub breach_of_spec : {M : Type 1} → statement M
breach_of_spec =
    tie.close
    (tie.spec
    (λ c. λ count e z. e.index ∙ sym (no_breach _ (sym e.jumps ∙ c.if-x-eq0.true)))
    (λ c κs. search rules)
    (λ c. λ count e z. c.first_breach.ensures count z))
