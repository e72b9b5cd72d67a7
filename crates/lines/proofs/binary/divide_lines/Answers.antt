use Rattle.mir.specs.Writing.{◌▹◌}
use Rattle.mir.specs.Register.{re}
use Rattle.lowering.specs.Lines.{divide_lines}
use Rattle.lines.proofs.binary.divide_lines.Goals as goal

pub returns-then-x-2 : goal.returns-then-x-2
unfolding divide_lines re
returns-then-x-2 c =
    simp (c.if-y.false, c.if-x-2.true)
    (c.bi-then-x-2.ensures ▹ c.fused_mul_add.ensures ▹ c.bi-then-x-2-2.ensures ▹ c.bi-then-x-2-3.ensures ▹ c.uni.ensures ▹ c.bi-then-x-2-4.ensures ▹ c.bi-then-x-2-5.ensures)
