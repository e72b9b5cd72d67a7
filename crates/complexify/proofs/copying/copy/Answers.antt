-- There is room.
use Rattle.std.proofs.Common.{◌∙◌, arith}
use Rattle.words.proofs.Stored.{stored_fits}
use Rattle.complexify.proofs.copying.copy.Goals as goal

pub returns : goal.returns
returns g c = c.put.ensures ∙ stored_fits _ _ _ (omega arith)
