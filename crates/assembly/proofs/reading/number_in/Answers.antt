-- The word is the next one; it is not; and no word is left.
use Rattle.std.proofs.Common.{arith, sym, ◌+◌, ◌∙◌}
use Rattle.replay.proofs.Sameness.{same_is}
use Rattle.assembly.proofs.Cutting.{ends_within, found, not_yet, none_left}
use Rattle.assembly.proofs.reading.number_in.Goals as goal

pub slice_bounds-eq-end : goal.slice_bounds-eq-end
slice_bounds-eq-end c =
    let k = ends_within 32 _ _ _ c.loop-at.invariant.within c.piece_end-end.ensures in
    omega (arith, k)

pub returns-then-eq : goal.returns-then-eq
returns-then-eq c =
    let v = c.loop-at in
    found _ _ v.at _ v.n v.invariant.same (omega arith) c.piece_end-end.ensures (sym c.if-eq.true ∙ c.eq.ensures ∙ same_is _ _)

pub returns-then-row-end : goal.returns-then-row-end
returns-then-row-end c =
    let v = c.loop-at in
    none_left c.args.row.now _ (c.piece_end-end.result + 1) _ (not_yet _ _ v.at _ v.n v.invariant.same (omega arith) c.piece_end-end.ensures (sym c.if-eq.false ∙ c.eq.ensures ∙ same_is _ _)) (omega arith)

pub loop-at-preserved : goal.loop-at-preserved
loop-at-preserved c =
    let v = c.loop-at in
    let e = c.piece_end-end.ensures in
    let k = ends_within 32 _ _ _ v.invariant.within e in record {
      near = omega (arith, k);
      within = omega arith;
      same = not_yet _ _ v.at _ v.n v.invariant.same (omega arith) e (sym c.if-eq.false ∙ c.eq.ensures ∙ same_is _ _);
    }

pub returns : goal.returns
returns c = none_left c.args.row.now _ c.loop-at.at _ c.loop-at.invariant.same (omega arith)
