-- `pass_branch` meets its contract.
use borrow.Author.Rules.{rules}
use mathlib.Core.Path.{◌≡◌, refl, sym, ◌∙◌}
use lib.ListN.{length}
use Rattle.refusals.proofs.Marking.{branch-none, branch-stood, branch-ahead, branch-passed, passed-refused}
use Rattle.refusals.proofs.labels.pass_branch.Statement.{statement}
use Rattle.refusals.proofs.labels.pass_branch.Tie as tie

pub pass_branch_spec : {M : Type 1} → statement M
pass_branch_spec =
    tie.close
    (tie.spec
    (λ c κs. search rules) (λ c. search rules)
    (λ c. let a = c.args in let h : length a.real.regs ≡ 32 = search rules in let k : length a.real.places ≡ 64 = search rules in
    passed-refused h k 10 refl (branch-none a.label a.real a.marks.now a.rows.now (sym c.byte-mark.ensures ∙ c.if-mark-eq0.true)))
    (λ c. search rules)
    (λ c. let a = c.args in let h : length a.real.regs ≡ 32 = search rules in let k : length a.real.places ≡ 64 = search rules in
    passed-refused h k 10 refl (branch-stood a.label a.real a.marks.now a.rows.now (sym c.byte-mark.ensures ∙ c.if-mark-eq-STOOD.true)))
    (λ c κs. search rules) (λ c κs. search rules) (λ c. search rules) (λ c. search rules)
    (λ c. let a = c.args in let h : length a.real.regs ≡ 32 = search rules in let k : length a.real.places ≡ 64 = search rules in
    let m = c.byte-mark.ensures in
    branch-passed h k (branch-ahead a.label a.real a.marks.now a.rows.now (λ e. c.if-mark-eq0.false (m ∙ e)) (λ e. c.if-mark-eq-STOOD.false (m ∙ e)))
    c.record_bytes.ensures c.note_branch.ensures))
