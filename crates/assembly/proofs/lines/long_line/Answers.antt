-- `lines::long_line` meets its contract.
use lib.Dec.{lit≤}
use Rattle.text.specs.Text.{ascii}
use Rattle.text.proofs.Whole.{prints}
use Rattle.assembly.specs.Lines.{long_text}
use Rattle.assembly.proofs.lines.long_line.Goals as goal

pub returns : goal.returns
unfolding ascii long_text
returns c = prints c.empty_line.ensures c.text.ensures (lit≤ tt)
