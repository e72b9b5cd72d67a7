-- `reports::refusal_line` meets its contract.
use mathlib.Core.Path.{refl}
use Rattle.text.specs.Line.{◌▹◌}
use Rattle.text.specs.Text.{ascii}
use Rattle.text.proofs.Whole.{prints}
use Rattle.text.proofs.Tables.{by_name}
use Rattle.reports.specs.Lines.{refusal_words, refusal_line}
use Rattle.reports.proofs.Brief.{refusal_short}
use Rattle.reports.proofs.refusal_line.Goals as goal

pub returns : goal.returns
unfolding ascii refusal_line
returns c = prints c.empty_line.ensures (c.text.ensures ▹ c.number.ensures ▹ c.number-2.ensures ▹ (c.byte.ensures ▹ by_name refusal_words refl c.name_in.ensures) ▹ c.byte-2.ensures) (refusal_short c.args.number c.args.index)
