-- `set_mark` meets its contract.
use borrow.Author.Rules.{rules}
use mathlib.Core.Path.{sym}
use lib.Seq.{set_out}
use Rattle.refusals.proofs.labels.set_mark.Statement.{statement}
use Rattle.refusals.proofs.labels.set_mark.Tie as tie

pub set_mark_spec : {M : Type 1} → statement M
set_mark_spec =
    tie.close
    (tie.spec
    (λ c. search rules) (λ c. search rules) (λ c. search rules)
    (λ c. let a = c.args in sym (set_out a.marks.now a.label a.mark c.if-l-marks.false)))
