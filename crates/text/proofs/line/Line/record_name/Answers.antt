-- `text::lines::Line::record_name` meets its contract.
use Rattle.text.specs.Text.{ascii, record_name}
use Rattle.text.proofs.line.Line.record_name.Goals as goal

pub returns-in-Work : goal.returns-in-Work
unfolding ascii record_name
returns-in-Work c = simp c.in-Work.is c.work_name.ensures

pub returns-in-Label : goal.returns-in-Label
unfolding ascii record_name
returns-in-Label c = simp c.in-Label.is c.text.ensures

pub returns-in-Branch : goal.returns-in-Branch
unfolding ascii record_name
returns-in-Branch c = simp c.in-Branch.is c.text-in-Branch.ensures

pub returns-in-Call : goal.returns-in-Call
unfolding ascii record_name
returns-in-Call c = simp c.in-Call.is c.text-in-Call.ensures

pub returns-in-BranchIf : goal.returns-in-BranchIf
unfolding ascii record_name
returns-in-BranchIf c = simp c.in-BranchIf.is c.text-in-BranchIf.ensures
