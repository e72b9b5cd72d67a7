-- `text::lines::constants_heading` meets its contract.
use Rattle.text.specs.Line.{◌▹◌}
use Rattle.text.specs.Text.{ascii, constants_heading}
use Rattle.text.proofs.Short.{constants_heading_short}
use Rattle.text.proofs.Whole.{prints}
use Rattle.text.proofs.lines.constants_heading.Goals as goal

pub returns : goal.returns
unfolding ascii constants_heading
returns c = prints c.empty_line.ensures (c.text.ensures ▹ c.number.ensures ▹ c.byte.ensures) (constants_heading_short c.args.count)
