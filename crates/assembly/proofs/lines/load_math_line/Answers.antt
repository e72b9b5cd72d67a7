-- `lines::load_math_line` meets its contract.
use Rattle.text.specs.Line.{◌▹◌}
use Rattle.text.specs.Text.{ascii}
use Rattle.assembly.proofs.Chains.{load-math}
use Rattle.assembly.proofs.lines.load_math_line.Goals as goal

pub returns : goal.returns
unfolding ascii
returns c = let a = c.args in
    load-math a.op a.dst a.s1 c.name.ensures c.name-2.ensures c.empty_line.ensures a.loc c.place.ensures.1
    (c.math_name.ensures ▹ c.text.ensures ▹ c.registers.ensures ▹ c.place.ensures.0 ▹ c.byte.ensures)
