-- The table in the code is the definition's.
use Rattle.text.specs.Text.{ascii, uni_names, uni_name}
use Rattle.text.proofs.Tables.{by_name}
use Rattle.text.proofs.line.Line.uni_name.Goals as goal

pub returns : goal.returns
unfolding ascii uni_name
returns c = by_name uni_names c.number.ensures c.name_in.ensures
