-- The table in the code is the definition's.
use Rattle.text.specs.Text.{ascii, fused_names, fused_name}
use Rattle.text.proofs.Tables.{by_name}
use Rattle.text.proofs.line.Line.fused_name.Goals as goal

pub returns : goal.returns
unfolding ascii fused_name
returns c = by_name fused_names c.number.ensures c.name_in.ensures
