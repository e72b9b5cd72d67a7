-- The marks' bytes are compared with the case's. Assumes nothing.
use Rattle.std.proofs.Common.{take, drop, ap, ◌∙◌}
use Rattle.replay.specs.Same.{same}
use Rattle.replay.proofs.Sameness.{same_is}
use Rattle.sheet_replay.specs.Case.{marks_agree}
use Rattle.sheet_replay.proofs.case.marks_agree.Goals as goal

pub returns : goal.returns
unfolding marks_agree
returns c = c.eq.ensures ∙ same_is _ _ ∙ ap (λ m. same m (take 132 (drop 124 c.args.s.now))) c.mark_bytes-marks.ensures
