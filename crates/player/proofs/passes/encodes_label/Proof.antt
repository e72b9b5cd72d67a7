-- `player::passes::encodes_label` meets its contract.
use borrow.Author.Rules.{rules}
use borrow.Author.Tests.{eq-eqb, ne_eqb}
use Rattle.player.proofs.Encoding.{label_of}
use Rattle.player.proofs.passes.encodes_label.Statement.{statement}
use Rattle.player.proofs.passes.encodes_label.Tie as tie

pub encodes_label_spec : {M : Type 1} → statement M
encodes_label_spec =
    tie.close
    (tie.spec
    (λ c κs. search rules) (λ c κs. search rules)
    (λ c. simp (label_of, ← c.u16_at.ensures, eq-eqb _ _ c.if-u16_at-eq14.true, ← c.byte.ensures))
    (λ c. simp (label_of, ← c.u16_at.ensures, ne_eqb _ _ c.if-u16_at-eq14.false)))
