-- `lines::mode_line` meets its contract.
use lib.Dec.{lit≤}
use Rattle.text.specs.Text.{ascii}
use Rattle.text.proofs.Whole.{prints}
use Rattle.assembly.specs.Lines.{mode_line}
use Rattle.assembly.proofs.lines.mode_line.Goals as goal

pub returns-in-Plain : goal.returns-in-Plain
unfolding ascii mode_line
returns-in-Plain c = simp c.in-Plain.is (prints c.empty_line.ensures c.text.ensures (lit≤ tt))

pub returns-in-Stable : goal.returns-in-Stable
unfolding ascii mode_line
returns-in-Stable c = simp c.in-Stable.is (prints c.empty_line-in-Stable.ensures c.text-in-Stable.ensures (lit≤ tt))

pub returns-in-Minding : goal.returns-in-Minding
unfolding ascii mode_line
returns-in-Minding c = simp c.in-Minding.is (prints c.empty_line-in-Minding.ensures c.text-in-Minding.ensures (lit≤ tt))
