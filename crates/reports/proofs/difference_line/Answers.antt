-- `reports::difference_line` meets its contract.
use Rattle.text.specs.Line.{◌▹◌}
use Rattle.text.proofs.Whole.{prints}
use Rattle.reports.specs.Lines.{difference_line}
use Rattle.reports.proofs.Brief.{difference_short}
use Rattle.reports.proofs.difference_line.Goals as goal

pub returns : goal.returns
unfolding difference_line
returns c = prints c.empty_line.ensures (c.word_name.ensures ▹ (c.byte.ensures ▹ c.hex.ensures) ▹ (c.byte-2.ensures ▹ c.hex-2.ensures) ▹ c.byte-3.ensures) (difference_short c.args.index c.args.one c.args.other)
