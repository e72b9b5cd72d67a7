-- One digit more; at the end none is left.
use Rattle.std.proofs.Common.{◌-◌, arith}
use Rattle.text.specs.Line.{none}
use Rattle.text.specs.Text.{hex_in}
use Rattle.text.proofs.Digits.{digit_more}
use Rattle.text.proofs.line.Line.hex.Goals as goal

pub loop-k-preserved : goal.loop-k-preserved
loop-k-preserved c =
    digit_more c.args.word (c.loop-k.k - 1) c.loop-k.k (omega arith) (omega arith) c.loop-k.invariant (rw c.hex_digit.ensures at c.byte-line.ensures)

pub loop-k-init : goal.loop-k-init
unfolding hex_in
loop-k-init c = none
