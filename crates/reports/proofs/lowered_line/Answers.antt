-- `reports::lowered_line` meets its contract.
use borrow.Author.Tests.{eq-eqb, ne_eqb}
use Rattle.text.specs.Line.{◌▹◌}
use Rattle.text.specs.Text.{ascii}
use Rattle.text.proofs.Whole.{prints}
use Rattle.reports.specs.Lines.{lowered_line}
use Rattle.reports.proofs.Brief.{lowered_short}
use Rattle.reports.proofs.lowered_line.Goals as goal

pub returns-then-number-ne0 : goal.returns-then-number-ne0
unfolding ascii lowered_line
returns-then-number-ne0 c = simp (ne_eqb _ _ c.if-number-ne0.true) c.refusal_line.ensures

pub returns : goal.returns
unfolding ascii lowered_line
returns c = simp (eq-eqb _ _ c.if-number-ne0.false) (prints c.empty_line.ensures (c.text.ensures ▹ c.number.ensures ▹ c.number-2.ensures ▹ c.number-3.ensures ▹ c.byte.ensures) (lowered_short 0 c.args.index c.args.bytes c.args.constants))
