use Rattle.lowering.specs.Rerun.{rerun_arith}
use Rattle.rerun.specs.Adds.{plainly}
use Rattle.rerun.proofs.instruction.rerun_arith.Goals as goal
use Rattle.rerun.proofs.instruction.rerun_arith.Goals.{in-Plus, in-Minus, in-Times}

pub returns-in-Divide : goal.returns-in-Divide
unfolding rerun_arith
returns-in-Divide c = simp c.in-Divide.is c.divide.ensures

pub returns : goal.returns
unfolding rerun_arith
returns c =
    elim c.match-op.branch [
      | in-Plus w ↦ simp (w.in-Plus.is, w.low-is, w.out-is) (plainly w.plus.ensures c.nothing.ensures)
      | in-Minus w ↦ simp (w.in-Minus.is, w.low-is, w.out-is) (plainly w.minus.ensures c.nothing.ensures)
      | in-Times w ↦ simp (w.in-Times.is, w.low-is, w.out-is) (plainly w.times.ensures c.nothing.ensures)
    ]
