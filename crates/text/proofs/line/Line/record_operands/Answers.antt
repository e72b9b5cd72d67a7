-- `text::lines::Line::record_operands` meets its contract.
use native.Mathlib.Omega.{arith}
use Rattle.text.specs.Line.{◌▹◌}
use Rattle.text.specs.Text.{record_operands}
use Rattle.text.proofs.line.Line.record_operands.Goals as goal

pub returns-in-Work : goal.returns-in-Work
unfolding record_operands
returns-in-Work c = simp c.in-Work.is (c.work_operands.ensures.0, c.work_operands.ensures.1)

pub returns-in-Label : goal.returns-in-Label
unfolding record_operands
returns-in-Label c = simp c.in-Label.is (c.decimal.ensures, omega arith)

pub returns-in-Branch : goal.returns-in-Branch
unfolding record_operands
returns-in-Branch c = simp c.in-Branch.is (c.decimal-in-Branch.ensures, omega arith)

pub returns-in-Call : goal.returns-in-Call
unfolding record_operands
returns-in-Call c = simp c.in-Call.is (c.decimal-in-Call.ensures, omega arith)

pub returns-in-BranchIf : goal.returns-in-BranchIf
unfolding record_operands
returns-in-BranchIf c = simp (c.in-BranchIf.is, ← c.flag_byte.ensures) (c.register.ensures ▹ c.number.ensures ▹ c.number-in-BranchIf.ensures, (omega arith, omega arith))
