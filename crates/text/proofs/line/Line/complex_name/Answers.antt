-- The table in the code is the definition's.
use Rattle.text.specs.Text.{ascii, complex_names, complex_name}
use Rattle.text.proofs.Tables.{by_name}
use Rattle.text.proofs.line.Line.complex_name.Goals as goal

pub returns : goal.returns
unfolding ascii complex_name
returns c = by_name complex_names c.number.ensures c.name_in.ensures
