-- `text::lines::Line::work_name` meets its contract.
use Rattle.text.specs.Text.{ascii, work_name}
use Rattle.text.proofs.line.Line.work_name.Goals as goal

pub returns-in-Uni : goal.returns-in-Uni
unfolding ascii work_name
returns-in-Uni c = simp c.in-Uni.is c.uni_name.ensures

pub returns-in-Bi : goal.returns-in-Bi
unfolding ascii work_name
returns-in-Bi c = simp c.in-Bi.is c.bin_name.ensures

pub returns-in-Mov : goal.returns-in-Mov
unfolding ascii work_name
returns-in-Mov c = simp c.in-Mov.is c.text.ensures

pub returns-in-Load : goal.returns-in-Load
unfolding ascii work_name
returns-in-Load c = simp c.in-Load.is c.text-in-Load.ensures

pub returns-in-Save : goal.returns-in-Save
unfolding ascii work_name
returns-in-Save c = simp c.in-Save.is c.text-in-Save.ensures

pub returns-in-LoadConst : goal.returns-in-LoadConst
unfolding ascii work_name
returns-in-LoadConst c = simp c.in-LoadConst.is c.text-in-LoadConst.ensures

pub returns-in-Fused : goal.returns-in-Fused
unfolding ascii work_name
returns-in-Fused c = simp c.in-Fused.is c.fused_name.ensures

pub returns-in-IfElse : goal.returns-in-IfElse
unfolding ascii work_name
returns-in-IfElse c = simp c.in-IfElse.is c.text-in-IfElse.ensures

pub returns-in-LoadComplex : goal.returns-in-LoadComplex
unfolding ascii work_name
returns-in-LoadComplex c = simp c.in-LoadComplex.is c.text-in-LoadComplex.ensures

pub returns-in-SaveComplex : goal.returns-in-SaveComplex
unfolding ascii work_name
returns-in-SaveComplex c = simp c.in-SaveComplex.is c.text-in-SaveComplex.ensures

pub returns-in-ComplexBi : goal.returns-in-ComplexBi
unfolding ascii work_name
returns-in-ComplexBi c = simp c.in-ComplexBi.is c.complex_name.ensures
