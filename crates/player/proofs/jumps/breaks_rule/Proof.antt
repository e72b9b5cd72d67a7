-- `player::jumps::breaks_rule` meets its contract.
use borrow.Author.Rules.{rules}
use mathlib.Core.Path.{sym, ◌∙◌}
use Rattle.player.proofs.Rules.{told-of-label, told-of-branch, told-of-call, told-of-branch-if, told_of_work}
use Rattle.player.proofs.jumps.breaks_rule.Statement.{statement}
use Rattle.player.proofs.jumps.breaks_rule.Tie as tie

pub breaks_rule_spec : {M : Type 1} → statement M
breaks_rule_spec =
    tie.close
    (tie.spec
    (λ c κs. search rules) (λ c κs. search rules) (λ c. search rules) (λ c. search rules) (λ c. search rules) (λ c κs. search rules)
    (λ c.
    λ before rec behind t e.
    c.label_breaks.ensures ∙ told-of-label _ _ rec t e c.byte-label.ensures (sym c.u16_at-kind.ensures ∙ c.if-kind-eq14.true))
    (λ c. search rules) (λ c. search rules) (λ c. search rules) (λ c. search rules) (λ c. search rules) (λ c. search rules)
    (λ c κs. search rules)
    (λ c.
    λ before rec behind t e.
    c.branch_breaks.ensures ∙ told-of-branch _ _ rec t e c.byte-label.ensures (sym c.u16_at-kind.ensures ∙ c.if-kind-eq15.true))
    (λ c. search rules) (λ c κs. search rules)
    (λ c.
    λ before rec behind t e.
    c.call_breaks.ensures ∙ told-of-call _ _ rec t e c.byte-label.ensures (sym c.u16_at-kind.ensures ∙ c.if-kind-eq16.true))
    (λ c κs. search rules) (λ c. search rules) (λ c. search rules) (λ c. search rules) (λ c. search rules) (λ c. search rules)
    (λ c. search rules) (λ c. search rules) (λ c κs. search rules)
    (λ c.
    λ before rec behind t e.
    c.branch_if_breaks.ensures ∙ told-of-branch-if _ _ rec t e c.byte-to.ensures (sym c.u16_at-kind.ensures ∙ c.if-kind-eq17.true))
    (λ c.
    λ before rec behind t e.
    let k = c.u16_at-kind.ensures in
    told_of_work _ (λ h. c.if-kind-eq14.false (k ∙ h)) (λ h. c.if-kind-eq15.false (k ∙ h)) (λ h. c.if-kind-eq16.false (k ∙ h)) (λ h. c.if-kind-eq17.false (k ∙ h))
    before rec behind e))
