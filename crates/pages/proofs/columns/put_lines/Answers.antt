-- No line is put, one more is, and all are.
use Rattle.std.proofs.Common.{arith, sym, subst}
use Rattle.text.proofs.Putting.{Owes, all, less, none, line-put}
use Rattle.pages.proofs.Standing.{left-all, left-none, left-turn, room}
use Rattle.pages.proofs.columns.put_lines.Goals as goal

pub loop-k-init : goal.loop-k-init
loop-k-init c =
    let a = c.args in
    subst (Owes a.out.now 0 _ a.out.now 0) (sym (left-all a.constants.now a.listing.now a.first a.start a.n)) (all (omega arith))

pub loop-k-preserved : goal.loop-k-preserved
loop-k-preserved c =
    let a = c.args in
    let v = c.loop-k in
    let f = c.line_at-q.ensures in
    let h = room a.constants.now a.listing.now a.first a.start a.n f (omega arith) c.requires.start_in_bounds v.invariant in
    less v.invariant (left-turn a.constants.now a.listing.now a.first a.start a.n v.k v.from f (omega arith))
    (line-put f.prints h c.put_line-at.ensures)

pub returns : goal.returns
returns c =
    let a = c.args in
    let v = c.loop-k in
    none v.invariant (left-none a.constants.now a.listing.now a.first a.start a.n v.k v.from (omega arith))
