-- `text::lines::constant_line` meets its contract.
use Rattle.text.specs.Line.{◌▹◌}
use Rattle.text.specs.Text.{constant_line}
use Rattle.text.proofs.Short.{constant_short}
use Rattle.text.proofs.Whole.{prints}
use Rattle.text.proofs.lines.constant_line.Goals as goal

pub returns : goal.returns
unfolding constant_line
returns c = prints c.empty_line.ensures ((c.decimal.ensures ▹ (c.byte.ensures ▹ c.hex.ensures)) ▹ c.byte-2.ensures) (constant_short c.args.index c.args.word)
