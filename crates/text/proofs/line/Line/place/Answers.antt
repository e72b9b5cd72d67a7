-- `text::fields::Line::place` meets its contract.
use native.Mathlib.Omega.{arith}
use Rattle.text.specs.Line.{◌▹◌}
use Rattle.text.specs.Text.{ascii, place}
use Rattle.text.proofs.line.Line.place.Goals as goal

pub returns-in-Stack : goal.returns-in-Stack
unfolding ascii place
returns-in-Stack c = simp c.in-Stack.is (c.text.ensures ▹ c.number.ensures, omega arith)

pub returns-in-Mem : goal.returns-in-Mem
unfolding ascii place
returns-in-Mem c = simp c.in-Mem.is (c.text-in-Mem.ensures ▹ c.number-in-Mem.ensures, omega arith)

pub returns-in-Param : goal.returns-in-Param
unfolding ascii place
returns-in-Param c = simp c.in-Param.is (c.text-in-Param.ensures ▹ c.number-in-Param.ensures, omega arith)
