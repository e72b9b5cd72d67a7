-- `pass_kind` meets its contract.
use borrow.Author.Rules.{rules}
use Rattle.refusals.proofs.Marking.{works-passed, passed_as}
use Rattle.refusals.proofs.Directing.{fields-works, label-low, label-own, branch-low, branch-own, branch_if_kind}
use Rattle.refusals.proofs.labels.pass_kind.Statement.{statement}
use Rattle.refusals.proofs.labels.pass_kind.Tie as tie

pub pass_kind_spec : {M : Type 1} → statement M
pass_kind_spec =
    tie.close
    (tie.spec
    (λ c κs. search rules) (λ c. search rules) (λ c. search rules)
    (λ c n. let a = c.args in passed_as (branch_if_kind n a.kind a.s.now c.if-kind-eq17.true) c.pass_branch_if.ensures)
    (λ c κs. search rules)
    (λ c n. let a = c.args in passed_as (label-low n a.kind a.s.now c.byte-label.ensures c.if-kind-eq14.true c.if-label-lt-FIRST_LABEL.true) (works-passed (search rules) (search rules) _ _))
    (λ c κs. search rules) (λ c. search rules) (λ c. search rules)
    (λ c n. let a = c.args in passed_as (label-own n a.kind a.s.now c.byte-label.ensures c.if-kind-eq14.true c.if-label-lt-FIRST_LABEL.false) c.pass_label.ensures)
    (λ c n. let a = c.args in passed_as (branch-low n a.kind a.s.now c.byte-label.ensures c.if-kind-eq15.true c.if-label-lt-FIRST_LABEL-2.true) (works-passed (search rules) (search rules) _ _))
    (λ c κs. search rules) (λ c. search rules) (λ c. search rules)
    (λ c n. let a = c.args in passed_as (branch-own n a.kind a.s.now c.byte-label.ensures c.if-kind-eq15.true c.if-label-lt-FIRST_LABEL-2.false) c.pass_branch.ensures)
    (λ c n. let a = c.args in passed_as (fields-works n a.kind a.s.now c.if-kind-eq14.false c.if-kind-eq15.false c.if-kind-eq17.false) (works-passed (search rules) (search rules) _ _)))
