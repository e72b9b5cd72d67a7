-- `lines::constant_line` meets its contract.
use Rattle.text.specs.Line.{◌▹◌}
use Rattle.text.specs.Text.{ascii}
use Rattle.text.proofs.Whole.{prints}
use Rattle.assembly.specs.Lines.{constant_line}
use Rattle.assembly.proofs.Short.{constant_short}
use Rattle.assembly.proofs.lines.constant_line.Goals as goal

pub returns : goal.returns
unfolding ascii constant_line
returns c = prints c.empty_line.ensures ((c.text.ensures ▹ c.hex.ensures) ▹ c.byte.ensures) (constant_short c.args.word)
