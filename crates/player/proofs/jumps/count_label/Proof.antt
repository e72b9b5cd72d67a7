-- `player::jumps::count_label` meets its contract.
use borrow.Author.Rules.{rules}
use native.Mathlib.Omega.{arith}
use mathlib.Core.Path.{sym, ◌∙◌}
use Rattle.player.proofs.Rules.{counted_one, counted_none}
use Rattle.player.proofs.jumps.count_label.Statement.{statement}
use Rattle.player.proofs.jumps.count_label.Tie as tie

pub count_label_spec : {M : Type 1} → statement M
count_label_spec =
    tie.close
    (tie.spec
    (λ c κs. search rules) (λ c κs. search rules) (λ c. search rules) (λ c. search rules) (λ c. search rules)
    (λ c. let h = c.requires.1 c.byte-l.result in omega (arith, h))
    (λ c. search rules) (λ c. search rules)
    (λ c. counted_one _ _ _ (sym c.u16_at.ensures ∙ c.if-u16_at-eq14.true) c.byte-l.ensures (omega arith))
    (λ c. counted_none _ _ (λ e. c.if-u16_at-eq14.false (c.u16_at.ensures ∙ e))))
