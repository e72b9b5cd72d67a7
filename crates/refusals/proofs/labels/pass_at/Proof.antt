-- `pass_at` meets its contract.
use borrow.Author.Rules.{rules}
use native.Mathlib.Omega.{arith}
use mathlib.Core.Path.{sym, ap, ◌∙◌}
use Rattle.mir.specs.Refusal.{as_read}
use Rattle.refusals.proofs.Marking.{works-passed, passed_as}
use Rattle.refusals.proofs.Directing.{at-headed, at-torn, at_low, at-past}
use Rattle.refusals.proofs.labels.pass_at.Statement.{statement}
use Rattle.refusals.proofs.labels.pass_at.Tie as tie

pub pass_at_spec : {M : Type 1} → statement M
pass_at_spec =
    tie.close
    (tie.spec
    (λ c n. let a = c.args in let h = c.if-sheet-at.true in passed_as (at-past n a.sheet.now a.at (omega (arith, h))) (works-passed (search rules) (search rules) _ _))
    (λ c. search rules) (λ c. search rules) (λ c. search rules) (λ c κs. search rules)
    (λ c n. let a = c.args in passed_as (at_low n a.sheet.now a.at c.u16_at.ensures (omega arith)) (works-passed (search rules) (search rules) _ _))
    (λ c κs. search rules) (λ c. search rules) (λ c κs. search rules) (λ c. search rules) (λ c. search rules) (λ c. search rules)
    (λ c n. let a = c.args in
    passed_as (at-headed n a.sheet.now a.at _ (sym c.read_head.ensures ∙ ap as_read c.in-Ok.is)) (c.pass_kind.ensures n))
    (λ c n. let a = c.args in
    passed_as (at-torn n a.sheet.now a.at _ (sym c.read_head.ensures ∙ ap as_read c.in-Err.is)) (works-passed (search rules) (search rules) _ _)))
