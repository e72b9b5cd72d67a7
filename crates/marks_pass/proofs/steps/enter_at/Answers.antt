-- No mark is made, one more is, and all are.
use Rattle.std.proofs.Common.{arith, rules, ap, ◌+◌, ◌&&◌, Bool, false, get_or}
use Rattle.marks_pass.proofs.Arrays as A
use Rattle.marks_pass.proofs.steps.enter_at.Goals as goal

pub loop-i-init : goal.loop-i-init
loop-i-init c = A.made_none 0 _ c.args.filled.now

pub loop-i-preserved : goal.loop-i-preserved
loop-i-preserved c =
    let a = c.args in
    let l = c.loop-i in
    A.made-on-0 _ _ l.i _ l.invariant (search rules) (ap (λ (x : Bool). x && get_or a.ways.now (a.from + l.i) false) (A.made-next-0 _ _ l.i l.invariant))

pub returns : goal.returns
returns c = A.made_all c.loop-i.i (omega arith) c.loop-i.invariant
