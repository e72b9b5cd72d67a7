-- `figures_at` meets its contract.
use borrow.Author.Rules.{rules}
use mathlib.Core.Path.{sym, ap, ◌∙◌}
use Rattle.figures.proofs.Taking.{at-refused, at-end}
use Rattle.figures.proofs.entry.figures_at.Statement.{statement}
use Rattle.figures.proofs.entry.figures_at.Tie as tie

pub figures_at_spec : {M : Type 1} → statement M
figures_at_spec =
    tie.close
    (tie.spec
    (λ c κs. search rules)
    (λ c. let a = c.args in c.refusal.ensures ∙ sym (at-refused a.number a.p c.if-number-ne0.true))
    (λ c κs. c.requires)
    (λ c. let a = c.args in
    ap (λ n. record { number = 0; index = a.p.index; bytes = a.p.taken.bytes; constants = a.p.constants; records = n }) c.records_run.ensures
    ∙ sym (at-end a.number a.p c.if-number-ne0.false)))
