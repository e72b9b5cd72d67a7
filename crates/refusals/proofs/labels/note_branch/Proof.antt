-- `note_branch` meets its contract.
use borrow.Author.Rules.{rules}
use mathlib.Core.Path.{sym, ◌∙◌}
use mathlib.Core.Bool.{true, false}
use Rattle.refusals.proofs.Marking.{noted-first, noted-row, noted_other, mark-stays}
use Rattle.refusals.proofs.labels.note_branch.Statement.{statement}
use Rattle.refusals.proofs.labels.note_branch.Tie as tie

pub note_branch_spec : {M : Type 1} → statement M
note_branch_spec =
    tie.close
    (tie.spec
    (λ c κs. search rules) (λ c. search rules) (λ c. search rules) (λ c κs. search rules) (λ c κs. search rules) (λ c. search rules)
    (λ c. search rules)
    (λ c. let a = c.args in noted-first a.label a.bytes a.marks.now a.rows.now (sym c.byte-mark.ensures ∙ c.if-mark-eq-AHEAD.true) c.set_mark.ensures c.put.ensures)
    (λ c κs. search rules) (λ c κs. search rules) (λ c. search rules) (λ c. search rules)
    (λ c. let a = c.args in noted-row a.label a.bytes a.marks.now a.rows.now false (sym c.byte-mark.ensures ∙ c.if-mark-eq-ROW.true) (sym c.row_is.ensures ∙ c.if-not-row_is.true) c.set_mark-then-not-row_is.ensures)
    (λ c. search rules) (λ c. search rules)
    (λ c. let a = c.args in let e = sym c.byte-mark.ensures ∙ c.if-mark-eq-ROW.true in
    noted-row a.label a.bytes a.marks.now a.rows.now true e (sym c.row_is.ensures ∙ c.if-not-row_is.false) (mark-stays a.label a.bytes a.marks.now a.rows.now 2 e))
    (λ c. search rules)
    (λ c. let a = c.args in noted_other a.label a.bytes a.marks.now a.rows.now (λ h. c.if-mark-eq-AHEAD.false (c.byte-mark.ensures ∙ h)) (λ h. c.if-mark-eq-ROW.false (c.byte-mark.ensures ∙ h))))
