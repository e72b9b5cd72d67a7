-- No mark is made, one more is, and all are.
use Rattle.std.proofs.Common.{arith, rules, refl, true}
use Rattle.marks.specs.Marks.{everything}
use Rattle.marks_pass.proofs.Arrays as A
use Rattle.marks_pass.proofs.steps.fill_all.Goals as goal

pub loop-i-init : goal.loop-i-init
loop-i-init c = A.made_none 0 everything c.args.filled.now

pub loop-i-preserved : goal.loop-i-preserved
loop-i-preserved c = A.made-on-0 everything _ c.loop-i.i true c.loop-i.invariant (search rules) refl

pub returns : goal.returns
returns c = A.made_all c.loop-i.i (omega arith) c.loop-i.invariant
