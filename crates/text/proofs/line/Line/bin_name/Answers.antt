-- The table in the code is the definition's.
use Rattle.text.specs.Text.{ascii, bin_names, bin_name}
use Rattle.text.proofs.Tables.{by_name}
use Rattle.text.proofs.line.Line.bin_name.Goals as goal

pub returns : goal.returns
unfolding ascii bin_name
returns c = by_name bin_names c.number.ensures c.name_in.ensures
