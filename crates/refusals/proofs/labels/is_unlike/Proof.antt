-- `is_unlike` meets its contract.
use borrow.Author.Rules.{rules}
use mathlib.Core.Path.{ap, ◌∙◌}
use Rattle.lowering.specs.Labels.{bytes_same}
use Rattle.refusals.specs.Noted.{row}
use Rattle.refusals.proofs.Marking.{unlike-row, unlike-other}
use Rattle.refusals.proofs.labels.is_unlike.Statement.{statement}
use Rattle.refusals.proofs.labels.is_unlike.Tie as tie

pub is_unlike_spec : {M : Type 1} → statement M
is_unlike_spec =
    tie.close
    (tie.spec
    (λ c κs. search rules) (λ c κs. search rules)
    (λ c. let a = c.args in unlike-row a.mark (row a.label a.rows.now) a.real c.if-mark-eq-ROW.true (c.row_is.ensures ∙ ap (λ b. bytes_same (row a.label a.rows.now) b) c.record_bytes.ensures))
    (λ c. let a = c.args in unlike-other a.mark (row a.label a.rows.now) a.real c.if-mark-eq-ROW.false))
