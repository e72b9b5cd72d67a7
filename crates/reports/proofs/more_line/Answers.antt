-- `reports::more_line` meets its contract.
use Rattle.text.specs.Line.{◌▹◌}
use Rattle.text.specs.Text.{ascii}
use Rattle.text.proofs.Whole.{prints}
use Rattle.reports.specs.Lines.{more_text}
use Rattle.reports.proofs.Brief.{more_short}
use Rattle.reports.proofs.more_line.Goals as goal

pub returns : goal.returns
unfolding ascii more_text
returns c = prints c.empty_line.ensures (c.text.ensures ▹ c.number.ensures ▹ c.text-2.ensures) (more_short c.args.n)
