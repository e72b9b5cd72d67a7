-- `mark_label` meets its contract.
use borrow.Author.Rules.{rules}
use borrow.Author.Tests.{eq-eqb, ne_eqb}
use mathlib.Core.Path.{sym, ap, ◌∙◌}
use lib.ListN.{set}
use Rattle.refusals.proofs.Searching.{is-label, is_other}
use Rattle.refusals.proofs.labels.mark_label.Statement.{statement}
use Rattle.refusals.proofs.labels.mark_label.Tie as tie

pub mark_label_spec : {M : Type 1} → statement M
mark_label_spec =
    tie.close
    (tie.spec
    (λ c κs. search rules) (λ c κs. search rules) (λ c κs. search rules) (λ c. search rules)
    (λ c. let a = c.args in
    is-label a.s.now a.marks.now (eq-eqb _ _ (sym c.u16_at.ensures ∙ c.if-u16_at-eq14.true))
    (c.set_mark.ensures ∙ ap (λ x. set a.marks.now x 1) c.byte.ensures))
    (λ c. let a = c.args in is_other a.s.now a.marks.now (ne_eqb _ _ (λ h. c.if-u16_at-eq14.false (c.u16_at.ensures ∙ h)))))
