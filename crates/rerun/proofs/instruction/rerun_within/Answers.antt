use Rattle.lowering.specs.Rerun.{rerun}
use Rattle.rerun.specs.Adds.{plainly, stay, ◌▸▸◌}
use Rattle.rerun.proofs.instruction.rerun_within.Goals as goal
use Rattle.rerun.proofs.instruction.rerun_within.Goals.{in-Nop, in-Mov, in-Load, in-Save, in-LoadConst, in-Fused, in-IfElse, in-Label, in-Branch, in-BranchIf}

pub returns-in-Uni : goal.returns-in-Uni
unfolding rerun
returns-in-Uni c = simp c.in-Uni.is c.rerun_uni.ensures

pub returns-in-Bi : goal.returns-in-Bi
unfolding rerun
returns-in-Bi c = simp c.in-Bi.is c.rerun_bin.ensures

pub returns-in-LoadMath : goal.returns-in-LoadMath
unfolding rerun
returns-in-LoadMath c = simp c.in-LoadMath.is (c.load_from-in-LoadMath.ensures ▸▸ c.rerun_arith.ensures)

pub returns-in-LoadConstMath : goal.returns-in-LoadConstMath
unfolding rerun
returns-in-LoadConstMath c = simp c.in-LoadConstMath.is (c.load_const-in-LoadConstMath.ensures ▸▸ c.rerun_arith-in-LoadConstMath.ensures)

pub returns : goal.returns
unfolding rerun
returns c =
    elim c.match-instruction.branch [
      | in-Nop w ↦ simp (w.in-Nop.is, w.low-is, w.out-is) (plainly stay c.nothing.ensures)
      | in-Mov w ↦ simp (w.in-Mov.is, w.low-is, w.out-is) (plainly w.rerun_mov.ensures c.nothing.ensures)
      | in-Load w ↦ simp (w.in-Load.is, w.low-is, w.out-is) (plainly w.load_from.ensures c.nothing.ensures)
      | in-Save w ↦ simp (w.in-Save.is, w.low-is, w.out-is) (plainly w.save_to.ensures c.nothing.ensures)
      | in-LoadConst w ↦ simp (w.in-LoadConst.is, w.low-is, w.out-is) (plainly w.load_const.ensures c.nothing.ensures)
      | in-Fused w ↦ simp (w.in-Fused.is, w.low-is, w.out-is) (plainly w.rerun_fused.ensures c.nothing.ensures)
      | in-IfElse w ↦ simp (w.in-IfElse.is, w.low-is, w.out-is) (plainly w.ifelse.ensures c.nothing.ensures)
      | in-Label w ↦ simp (w.in-Label.is, w.low-is, w.out-is) (plainly w.set_label.ensures c.nothing.ensures)
      | in-Branch w ↦ simp (w.in-Branch.is, w.low-is, w.out-is) (plainly w.branch-low.ensures c.nothing.ensures)
      | in-BranchIf w ↦ simp (w.in-BranchIf.is, w.low-is, w.out-is) (plainly w.branch_if.ensures c.nothing.ensures)
    ]
