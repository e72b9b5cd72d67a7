-- `reading::head_number` meets its contract: the row's words, by computation.
use Rattle.text.specs.Text.{ascii}
use Rattle.assembly.specs.Assembled.{pieces, heads}
use Rattle.assembly.proofs.reading.head_number.Goals as goal

pub returns : goal.returns
unfolding pieces heads ascii
returns c = c.number_in.ensures
