-- One register more.
use Rattle.std.proofs.Common.{◌∙◌, arith}
use Rattle.text.proofs.Adding.{turn_register}
use Rattle.text.proofs.line.Line.registers.Goals as goal

pub loop-r-preserved : goal.loop-r-preserved
loop-r-preserved c =
    let v = c.loop-r in
    turn_register c.args.rs.now v.r-index (omega arith) c.byte.ensures c.register-line.ensures ∙ v.invariant
