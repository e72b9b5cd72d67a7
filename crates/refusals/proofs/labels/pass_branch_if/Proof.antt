-- `pass_branch_if` meets its contract.
use borrow.Author.Rules.{rules}
use Rattle.refusals.proofs.Marking.{works-passed, passed_as}
use Rattle.refusals.proofs.Directing.{if-register, if-low, if-flag, if-own}
use Rattle.refusals.proofs.labels.pass_branch_if.Statement.{statement}
use Rattle.refusals.proofs.labels.pass_branch_if.Tie as tie

pub pass_branch_if_spec : {M : Type 1} → statement M
pass_branch_if_spec =
    tie.close
    (tie.spec
    (λ c κs. search rules)
    (λ c. let s = c.args.s.now in passed_as (if-register s c.byte.ensures c.if-byte-gt-LAST.true) (works-passed (search rules) (search rules) _ _))
    (λ c κs. search rules)
    (λ c. let s = c.args.s.now in passed_as (if-low s c.byte.ensures c.if-byte-gt-LAST.false c.byte-label.ensures c.if-label-lt-FIRST_LABEL.true) (works-passed (search rules) (search rules) _ _))
    (λ c κs. search rules)
    (λ c. let s = c.args.s.now in passed_as (if-flag s c.byte.ensures c.if-byte-gt-LAST.false c.byte-label.ensures c.if-label-lt-FIRST_LABEL.false c.byte-2.ensures c.if-byte-gt1.true) (works-passed (search rules) (search rules) _ _))
    (λ c κs. search rules) (λ c. search rules) (λ c. search rules)
    (λ c. let s = c.args.s.now in
    passed_as (if-own s c.byte.ensures c.if-byte-gt-LAST.false c.byte-label.ensures c.if-label-lt-FIRST_LABEL.false c.byte-2.ensures c.if-byte-gt1.false)
    c.pass_branch.ensures))
