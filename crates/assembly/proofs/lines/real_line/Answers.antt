-- `lines::real_line` meets its contract.
use Rattle.text.specs.Line.{◌▹◌}
use Rattle.text.specs.Text.{ascii}
use Rattle.assembly.proofs.Chains.{real_chain}
use Rattle.assembly.proofs.lines.real_line.Goals as goal

pub returns : goal.returns
unfolding ascii
returns c = real_chain c.args.i c.real_place.ensures c.empty_line.ensures c.place.ensures.1 ((c.text.ensures ▹ c.place.ensures.0) ▹ c.byte.ensures)
