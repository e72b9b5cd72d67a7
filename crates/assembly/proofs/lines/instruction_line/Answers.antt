-- `lines::instruction_line` meets its contract.
use mathlib.Core.Path.{sym, subst}
use Rattle.text.specs.Line.{Prints}
use Rattle.text.specs.Text.{ascii}
use Rattle.assembly.specs.Lines.{instruction_line}
use Rattle.assembly.proofs.Chains.{nop, uni, bi, mov, load, save, load-const, fused, if-else, branch_if}
use Rattle.assembly.proofs.lines.instruction_line.Goals as goal

pub returns-in-Nop : goal.returns-in-Nop
unfolding ascii instruction_line
returns-in-Nop c = nop c.in-Nop.is c.empty_line.ensures c.text.ensures

pub returns-in-Uni : goal.returns-in-Uni
unfolding ascii instruction_line
returns-in-Uni c = uni _ _ _ c.in-Uni.is c.name.ensures c.name-in-Uni.ensures c.work_line.ensures

pub returns-in-Bi : goal.returns-in-Bi
unfolding ascii instruction_line
returns-in-Bi c = bi _ _ _ _ c.in-Bi.is c.name-in-Bi.ensures c.name-in-Bi-2.ensures c.name-in-Bi-3.ensures c.work_line-in-Bi.ensures

pub returns-in-Mov : goal.returns-in-Mov
unfolding ascii instruction_line
returns-in-Mov c = mov _ _ c.in-Mov.is c.name-in-Mov.ensures c.name-in-Mov-2.ensures c.work_line-in-Mov.ensures

pub returns-in-Load : goal.returns-in-Load
unfolding ascii instruction_line
returns-in-Load c = load _ _ c.in-Load.is c.name-in-Load.ensures c.work_line-in-Load.ensures

pub returns-in-Save : goal.returns-in-Save
unfolding ascii instruction_line
returns-in-Save c = save _ _ c.in-Save.is c.name-in-Save.ensures c.work_line-in-Save.ensures

pub returns-in-LoadConst : goal.returns-in-LoadConst
unfolding ascii instruction_line
returns-in-LoadConst c = load-const _ _ c.in-LoadConst.is c.name-in-LoadConst.ensures c.work_line-in-LoadConst.ensures

pub returns-in-Fused : goal.returns-in-Fused
unfolding ascii instruction_line
returns-in-Fused c = fused _ _ _ _ _ c.in-Fused.is c.name-in-Fused.ensures c.name-in-Fused-2.ensures c.name-in-Fused-3.ensures c.name-in-Fused-4.ensures c.work_line-in-Fused.ensures

pub returns-in-IfElse : goal.returns-in-IfElse
unfolding ascii instruction_line
returns-in-IfElse c = if-else _ _ _ _ c.in-IfElse.is c.name-in-IfElse.ensures c.name-in-IfElse-2.ensures c.name-in-IfElse-3.ensures c.work_line-in-IfElse.ensures

pub returns-in-LoadMath : goal.returns-in-LoadMath
unfolding ascii instruction_line
returns-in-LoadMath c = subst (λ x. Prints (instruction_line x) c.load_math_line.result) (sym c.in-LoadMath.is) c.load_math_line.ensures

pub returns-in-LoadConstMath : goal.returns-in-LoadConstMath
unfolding ascii instruction_line
returns-in-LoadConstMath c = subst (λ x. Prints (instruction_line x) c.load_const_math_line.result) (sym c.in-LoadConstMath.is) c.load_const_math_line.ensures

pub returns-in-Label : goal.returns-in-Label
unfolding ascii instruction_line
returns-in-Label c = subst (λ x. Prints (instruction_line x) c.record_line.result) (sym c.in-Label.is) c.record_line.ensures.0

pub returns-in-Branch : goal.returns-in-Branch
unfolding ascii instruction_line
returns-in-Branch c = subst (λ x. Prints (instruction_line x) c.record_line-in-Branch.result) (sym c.in-Branch.is) c.record_line-in-Branch.ensures.0

pub returns-in-BranchIf : goal.returns-in-BranchIf
unfolding ascii instruction_line
returns-in-BranchIf c = branch_if _ _ _ c.in-BranchIf.is c.name-in-BranchIf.ensures c.record_line-in-BranchIf.ensures.0
