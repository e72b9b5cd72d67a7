-- The first 66 marks, copied.
use Rattle.std.proofs.Common.{arith, sym, ap, ◌∙◌, List, Bool, false, get_or}
use Rattle.std.proofs.lemmas.List.{get_or-take}
use lib.Seq.{length-take-le}
use Rattle.marks_pass.proofs.first.Goals as goal

pub slice_bounds-copy_from_slice-end-2 : goal.slice_bounds-copy_from_slice-end-2
slice_bounds-copy_from_slice-end-2 c = sym (length-take-le 66 c.args.all.now (omega arith))

pub returns : goal.returns
returns c =
    record { each = λ i h. ap (λ (l : List Bool). get_or l i false) c.copy_from_slice.ensures.after ∙ get_or-take 66 c.args.all.now i false h }
