-- `marks_pass::work::aside` meets its contract.
use mathlib.Core.Path.{sym, ap}
use mathlib.Core.Bool.{Bool, cond}
use Rattle.marks_pass.proofs.work.aside.Statement.{statement}
use Rattle.marks_pass.proofs.work.aside.Tie as tie

returns : tie.Need-returns-then-kind-op
returns c = sym (ap (λ (q : Bool). cond q 128 0) c.if-kind-op.true)

returns-2 : tie.Need-returns-else-kind-op
returns-2 c = sym (ap (λ (q : Bool). cond q 128 0) c.if-kind-op.false)

pub aside_spec : {M : Type 1} → statement M
aside_spec =
    tie.close
    (tie.spec
    returns returns-2)
