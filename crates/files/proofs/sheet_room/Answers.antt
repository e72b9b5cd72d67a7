-- As many zeros as were asked for.
use Rattle.std.proofs.Common.{ℕ}
use Rattle.std.proofs.lemmas.List.{length-replicate}
use Rattle.files.proofs.sheet_room.Goals as goal

pub returns : goal.returns
returns c = length-replicate {A = ℕ} 1048577 0
