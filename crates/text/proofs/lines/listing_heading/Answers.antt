-- `text::lines::listing_heading` meets its contract.
use Rattle.text.specs.Line.{◌▹◌}
use Rattle.text.specs.Text.{ascii, listing_heading}
use Rattle.text.proofs.Short.{listing_heading_short}
use Rattle.text.proofs.Whole.{prints}
use Rattle.text.proofs.lines.listing_heading.Goals as goal

pub returns : goal.returns
unfolding ascii listing_heading
returns c = prints c.empty_line.ensures (c.text.ensures ▹ c.number.ensures ▹ c.number-2.ensures ▹ c.byte.ensures) (listing_heading_short c.args.records c.args.bytes)
