-- `reading::class_number` meets its contract: the row's words, by computation.
use Rattle.text.specs.Text.{ascii}
use Rattle.assembly.specs.Assembled.{pieces, class_words}
use Rattle.assembly.proofs.reading.class_number.Goals as goal

pub returns : goal.returns
unfolding pieces class_words ascii
returns c = c.number_in.ensures
