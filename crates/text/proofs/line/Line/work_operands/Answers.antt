-- `text::lines::Line::work_operands` meets its contract.
use native.Mathlib.Omega.{arith}
use Rattle.text.specs.Line.{◌▹◌}
use Rattle.text.specs.Text.{work_operands}
use Rattle.text.proofs.line.Line.work_operands.Goals as goal

pub returns-in-Uni : goal.returns-in-Uni
unfolding work_operands
returns-in-Uni c = simp c.in-Uni.is (c.register.ensures ▹ c.registers.ensures, (omega arith, omega arith))

pub returns-in-Bi : goal.returns-in-Bi
unfolding work_operands
returns-in-Bi c = simp c.in-Bi.is (c.register-in-Bi.ensures ▹ c.registers-in-Bi.ensures, (omega arith, omega arith, omega arith))

pub returns-in-Mov : goal.returns-in-Mov
unfolding work_operands
returns-in-Mov c = simp c.in-Mov.is (c.register-in-Mov.ensures ▹ c.registers-in-Mov.ensures, (omega arith, omega arith))

pub returns-in-Load : goal.returns-in-Load
unfolding work_operands
returns-in-Load c = simp c.in-Load.is (c.register-in-Load.ensures ▹ c.place.ensures.0, (omega arith, c.place.ensures.1))

pub returns-in-Save : goal.returns-in-Save
unfolding work_operands
returns-in-Save c = simp c.in-Save.is (c.register-in-Save.ensures ▹ c.place-in-Save.ensures.0, (omega arith, c.place-in-Save.ensures.1))

pub returns-in-LoadConst : goal.returns-in-LoadConst
unfolding work_operands
returns-in-LoadConst c = simp c.in-LoadConst.is (c.register-in-LoadConst.ensures ▹ c.number.ensures, (omega arith, omega arith))

pub returns-in-Fused : goal.returns-in-Fused
unfolding work_operands
returns-in-Fused c = simp c.in-Fused.is (c.register-in-Fused.ensures ▹ c.registers-in-Fused.ensures, (omega arith, omega arith, omega arith, omega arith))

pub returns-in-IfElse : goal.returns-in-IfElse
unfolding work_operands
returns-in-IfElse c = simp c.in-IfElse.is (c.register-in-IfElse.ensures ▹ c.registers-in-IfElse.ensures ▹ c.place-in-IfElse.ensures.0, (omega arith, omega arith, omega arith, c.place-in-IfElse.ensures.1))

pub returns-in-LoadComplex : goal.returns-in-LoadComplex
unfolding work_operands
returns-in-LoadComplex c = simp c.in-LoadComplex.is (c.register-in-LoadComplex.ensures ▹ c.registers-in-LoadComplex.ensures ▹ c.place-in-LoadComplex.ensures.0, (omega arith, omega arith, c.place-in-LoadComplex.ensures.1))

pub returns-in-SaveComplex : goal.returns-in-SaveComplex
unfolding work_operands
returns-in-SaveComplex c = simp c.in-SaveComplex.is (c.register-in-SaveComplex.ensures ▹ c.registers-in-SaveComplex.ensures ▹ c.place-in-SaveComplex.ensures.0, (omega arith, omega arith, c.place-in-SaveComplex.ensures.1))

pub returns-in-ComplexBi : goal.returns-in-ComplexBi
unfolding work_operands
returns-in-ComplexBi c = simp c.in-ComplexBi.is (c.register-in-ComplexBi.ensures ▹ c.registers-in-ComplexBi.ensures, (omega arith, omega arith, omega arith, omega arith, omega arith, omega arith))
