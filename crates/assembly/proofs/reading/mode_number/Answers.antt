-- `reading::mode_number` meets its contract: the row's words, by computation.
use Rattle.text.specs.Text.{ascii}
use Rattle.assembly.specs.Assembled.{pieces, mode_words}
use Rattle.assembly.proofs.reading.mode_number.Goals as goal

pub returns : goal.returns
unfolding pieces mode_words ascii
returns c = c.number_in.ensures
