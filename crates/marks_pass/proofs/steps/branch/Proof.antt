-- `marks_pass::steps::branch` meets its contract.
use borrow.Author.Rules.{rules}
use mathlib.Core.Path.{sym, ap, ◌∙◌}
use mathlib.Core.Bool.{Bool, true, false, cond}
use borrow.Author.Tests.{lt-ltb, le-ltb}
use native.Mathlib.Omega.{arith}
use lib.ListN.{get_or}
use Rattle.marks_pass.proofs.Arrays as A
use Rattle.marks_pass.proofs.steps.branch.Statement.{statement}
use Rattle.marks_pass.proofs.steps.branch.Tie as tie

pub branch_spec : {M : Type 1} → statement M
branch_spec =
    tie.close
    (tie.spec
    (λ c κs. search rules) (λ c κs. search rules) (λ c. search rules) (λ c. search rules)
    (λ c. record { noted = c.note-known.ensures; filled = λ i h. A.made-66 _ _ c.fill_all.ensures i h ∙ sym (ap (λ (q : Bool). cond q true (get_or c.args.filled.now i false)) (lt-ltb c.args.l 3 (omega arith))) })
    (λ c. search rules) (λ c. search rules)
    (λ c. record { noted = c.note-known.ensures; filled = λ i h. sym (ap (λ (q : Bool). cond q true (get_or c.args.filled.now i false)) (le-ltb c.args.l 3 (omega arith))) }))
