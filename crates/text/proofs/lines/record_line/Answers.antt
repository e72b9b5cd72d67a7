-- `text::lines::record_line` meets its contract.
use native.Mathlib.Omega.{arith}
use Rattle.text.specs.Line.{◌▹◌}
use Rattle.text.specs.Text.{record_text, record_line}
use Rattle.text.proofs.Short.{record_short, record_line_short}
use Rattle.text.proofs.Whole.{prints}
use Rattle.text.proofs.lines.record_line.Goals as goal

pub returns : goal.returns
unfolding record_line record_text
returns c = let r = c.args.record in
    let h = c.record_operands.ensures.1 in
    let p = prints c.empty_line.ensures
    (c.record_name.ensures ▹ (c.byte.ensures ▹ c.record_operands.ensures.0) ▹ c.byte-2.ensures)
    (record_short r h) in
    let k = p.whole.count in
    let l = record_line_short r h in
    (p, omega (arith, k, l))
