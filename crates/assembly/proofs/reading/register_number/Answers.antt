-- `reading::register_number` meets its contract: the row's words, by computation.
use Rattle.text.specs.Text.{ascii, decimal_in}
use Rattle.text.specs.Text as Text
use Rattle.assembly.specs.Assembled.{pieces, register_words}
use Rattle.assembly.proofs.reading.register_number.Goals as goal

pub returns : goal.returns
unfolding pieces register_words Text.register ascii decimal_in
returns c = c.number_in.ensures
