-- `reading::index_number` meets its contract: the row's words, by computation.
use Rattle.text.specs.Text.{decimal_in}
use Rattle.assembly.specs.Assembled.{pieces, index_words}
use Rattle.assembly.proofs.reading.index_number.Goals as goal

pub returns : goal.returns
unfolding pieces index_words decimal_in
returns c = c.number_in.ensures
