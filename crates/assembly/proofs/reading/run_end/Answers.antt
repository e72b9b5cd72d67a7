-- The run ends; it goes on; and the end.
use Rattle.std.proofs.Common.{arith, sym, ◌≡◌, ◌∙◌, ap, length}
use lib.Dec.{eqb}
use borrow.Author.Tests.{eq-eqb, ne_eqb}
use Rattle.assembly.proofs.Runs.{run_on, run_stop, run_out}
use Rattle.assembly.proofs.reading.run_end.Goals as goal

pub returns-then-blankness_of-k : goal.returns-then-blankness_of-k
returns-then-blankness_of-k c =
    let v = c.loop-i in
    let k = c.args.k in
    run_stop k _ v.i (omega arith) (ap (λ n. eqb n k) (sym c.blankness_of.ensures) ∙ ne_eqb _ _ c.if-blankness_of-k.true) ∙ v.invariant.same

pub loop-i-preserved : goal.loop-i-preserved
loop-i-preserved c =
    let v = c.loop-i in
    let k = c.args.k in record {
      near = omega arith;
      same = run_on k _ v.i (omega arith) (ap (λ n. eqb n k) (sym c.blankness_of.ensures) ∙ eq-eqb _ _ c.if-blankness_of-k.false) ∙ v.invariant.same;
    }

pub returns-then-at-s : goal.returns-then-at-s
returns-then-at-s c =
    let v = c.loop-i in
    let e : length c.args.s.now ≡ v.i = omega arith in
    e ∙ run_out _ _ v.i (omega arith) ∙ v.invariant.same

pub returns-else-at-s : goal.returns-else-at-s
returns-else-at-s c =
    let v = c.loop-i in
    let e : c.args.at ≡ v.i = omega arith in
    e ∙ run_out _ _ v.i (omega arith) ∙ v.invariant.same
