-- `text::lines::refused_line` meets its contract.
use Rattle.text.specs.Line.{◌▹◌}
use Rattle.text.specs.Text.{ascii, refused_line}
use Rattle.text.proofs.Short.{refused_short}
use Rattle.text.proofs.Whole.{prints}
use Rattle.text.proofs.lines.refused_line.Goals as goal

pub returns : goal.returns
unfolding ascii refused_line
returns c = prints c.empty_line.ensures (c.text.ensures ▹ c.number.ensures ▹ c.number-2.ensures ▹ c.byte.ensures) (refused_short c.args.number c.args.index)
