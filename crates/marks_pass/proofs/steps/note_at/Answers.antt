-- No mark is made, one more is, and all are.
use Rattle.std.proofs.Common.{arith, rules, ap, ◌≡◌, ◌+◌, ◌-◌, ◌&&◌, ℕ, false, get_or}
use mathlib.Core.Path.{ap₂}
use Rattle.marks_pass.proofs.Arrays as A
use Rattle.marks_pass.proofs.steps.note_at.Goals as goal

pub loop-i-init : goal.loop-i-init
loop-i-init c = A.made_none c.args.from _ c.args.ways.now

pub loop-i-preserved : goal.loop-i-preserved
loop-i-preserved c =
    let a = c.args in
    let l = c.loop-i in
    let z : l.i ≡ a.from + l.i - a.from = omega arith in
    A.made-on _ _ _ l.i _ l.invariant (search rules) (ap₂ ◌&&◌ (A.made-next _ _ _ l.i l.invariant) (ap (λ (k : ℕ). get_or a.filled.now k false) z))

pub returns : goal.returns
returns c = A.made_all c.loop-i.i (omega arith) c.loop-i.invariant
