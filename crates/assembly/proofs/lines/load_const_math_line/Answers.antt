-- `lines::load_const_math_line` meets its contract.
use native.Mathlib.Omega.{arith}
use Rattle.text.specs.Line.{◌▹◌}
use Rattle.text.specs.Text.{ascii}
use Rattle.assembly.proofs.Chains.{const-math}
use Rattle.assembly.proofs.lines.load_const_math_line.Goals as goal

pub returns : goal.returns
unfolding ascii
returns c = let a = c.args in
    const-math a.op a.dst a.s1 c.name.ensures c.name-2.ensures c.empty_line.ensures a.idx (omega arith)
    (c.math_name.ensures ▹ c.text.ensures ▹ c.registers.ensures ▹ c.number.ensures ▹ c.byte.ensures)
