-- The byte is there; it is not; and the end.
use Rattle.std.proofs.Common.{arith, ◌≡◌, ◌∙◌, length}
use borrow.Author.Tests.{eq-eqb, ne_eqb}
use Rattle.assembly.proofs.Cutting.{passed_over, stopped, at-end}
use Rattle.assembly.proofs.reading.piece_end.Goals as goal

pub returns-then-s-i : goal.returns-then-s-i
returns-then-s-i c =
    let v = c.loop-i in
    stopped _ _ v.i (omega arith) (eq-eqb _ _ c.if-s-i.true) ∙ v.invariant.same

pub loop-i-preserved : goal.loop-i-preserved
loop-i-preserved c =
    let v = c.loop-i in record {
      near = omega arith;
      same = passed_over _ _ v.i (omega arith) (ne_eqb _ _ c.if-s-i.false) ∙ v.invariant.same;
    }

pub returns-then-at-s : goal.returns-then-at-s
returns-then-at-s c =
    let v = c.loop-i in
    let e : length c.args.s.now ≡ v.i = omega arith in
    e ∙ at-end _ _ v.i (omega arith) ∙ v.invariant.same

pub returns-else-at-s : goal.returns-else-at-s
returns-else-at-s c =
    let v = c.loop-i in
    let e : c.args.at ≡ v.i = omega arith in
    e ∙ at-end _ _ v.i (omega arith) ∙ v.invariant.same
