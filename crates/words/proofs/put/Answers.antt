-- Where it fits the part is replaced, and else nothing is.
use Rattle.std.proofs.Common.{◌+◌, ◌<◌, length, sym, arith}
use Rattle.words.proofs.Stored.{stored_part, stored_full}
use Rattle.words.proofs.put.Goals as goal
use Rattle.words.proofs.put.Goals.{else-s-out-via-then-s-out+else-at-out, else-s-out-via-else-s-out}

pub returns-then-at-out : goal.returns-then-at-out
returns-then-at-out g c = stored_part _ _ _ _ _ c.copy_from_slice.ensures.after (omega arith) (omega arith)

pub returns-else-s-out : goal.returns-else-s-out
returns-else-s-out g c =
    let h : length c.args.out.now < c.args.at + length c.args.s.now =
    elim c.else-s-out.branch [ else-s-out-via-then-s-out+else-at-out w ↦ omega arith | else-s-out-via-else-s-out w ↦ omega arith ] in
    sym (stored_full _ _ _ h)
