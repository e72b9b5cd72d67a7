-- `reports::word_line` meets its contract.
use Rattle.text.specs.Line.{◌▹◌}
use Rattle.text.proofs.Whole.{prints}
use Rattle.reports.specs.Lines.{word_line}
use Rattle.reports.proofs.Brief.{word_line_short}
use Rattle.reports.proofs.word_line.Goals as goal

pub returns : goal.returns
unfolding word_line
returns c = prints c.empty_line.ensures (c.word_name.ensures ▹ (c.byte.ensures ▹ c.hex.ensures) ▹ c.byte-2.ensures) (word_line_short c.args.index c.args.word)
