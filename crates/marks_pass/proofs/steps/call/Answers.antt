-- No mark is made, one more is, and all are.
use Rattle.std.proofs.Common.{arith, rules, ap, ◌≡◌, ◌&&◌, ◌||◌, Bool, not, false, get_or}
use mathlib.Core.Path.{ap₂}
use Rattle.marks_pass.proofs.Arrays as A
use Rattle.marks_pass.proofs.steps.call.Goals as goal

pub loop-i-init : goal.loop-i-init
loop-i-init c = record { filled = A.made_none 0 _ c.args.filled.now; drawn = A.made_none 0 _ c.args.drawn.now }

pub loop-i-preserved : goal.loop-i-preserved
loop-i-preserved c =
    let a = c.args in
    let l = c.loop-i in
    let n = A.made-next-0 _ _ l.i l.invariant.filled in record {
      filled = A.made-on-0 _ _ l.i _ l.invariant.filled (search rules) (ap (λ (x : Bool). x || get_or a.fills.now l.i false) n);
      drawn = A.made-on-0 _ _ l.i _ l.invariant.drawn (search rules) (ap₂ (λ (x y : Bool). x || (get_or a.draws.now l.i false && not y)) (A.made-next-0 _ _ l.i l.invariant.drawn) n);
    }

pub returns : goal.returns
returns c =
    let l = c.loop-i in
    let z : l.i ≡ 66 = omega arith in
    record { filled = A.made_all l.i z l.invariant.filled; drawn = A.made_all l.i z l.invariant.drawn }
