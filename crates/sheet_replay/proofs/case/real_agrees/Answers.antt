-- The record's bytes are compared with the case's. Assumes nothing.
use Rattle.std.proofs.Common.{take, drop, ap, ◌∙◌}
use Rattle.replay.specs.Same.{same}
use Rattle.replay.proofs.Sameness.{same_is}
use Rattle.sheet_replay.specs.Case.{real_agrees}
use Rattle.sheet_replay.proofs.case.real_agrees.Goals as goal

pub returns : goal.returns
unfolding real_agrees
returns c = c.eq.ensures ∙ same_is _ _ ∙ ap (λ m. same m (take 96 (drop 28 c.args.s.now))) c.record_bytes-record.ensures
