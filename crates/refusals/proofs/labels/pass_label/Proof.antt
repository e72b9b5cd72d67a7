-- `pass_label` meets its contract.
use borrow.Author.Rules.{rules}
use mathlib.Core.Path.{◌≡◌, refl, sym, ◌∙◌}
use lib.ListN.{length}
use Rattle.refusals.proofs.Marking.{label-stood, label-unlike, label-alike, passed-refused, passed_on}
use Rattle.refusals.proofs.labels.pass_label.Statement.{statement}
use Rattle.refusals.proofs.labels.pass_label.Tie as tie

pub pass_label_spec : {M : Type 1} → statement M
pass_label_spec =
    tie.close
    (tie.spec
    (λ c κs. search rules) (λ c. search rules)
    (λ c. let a = c.args in let h : length a.real.regs ≡ 32 = search rules in let k : length a.real.places ≡ 64 = search rules in
    passed-refused h k 10 refl (label-stood a.label a.real a.marks.now a.rows.now (sym c.byte-mark.ensures ∙ c.if-mark-eq-STOOD.true)))
    (λ c κs. search rules) (λ c. search rules)
    (λ c. let a = c.args in let h : length a.real.regs ≡ 32 = search rules in let k : length a.real.places ≡ 64 = search rules in
    passed-refused h k 11 refl (label-unlike a.label a.real a.marks.now a.rows.now c.byte-mark.ensures c.if-mark-eq-STOOD.false c.is_unlike.ensures c.if-is_unlike.true))
    (λ c κs. search rules) (λ c. search rules)
    (λ c. let a = c.args in let h : length a.real.regs ≡ 32 = search rules in let k : length a.real.places ≡ 64 = search rules in
    passed_on h k (label-alike a.label a.real a.marks.now a.rows.now c.byte-mark.ensures c.if-mark-eq-STOOD.false c.is_unlike.ensures c.if-is_unlike.false) c.set_mark.ensures refl))
