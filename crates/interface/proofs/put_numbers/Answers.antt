-- One number more, and all.
use Rattle.std.proofs.Common.{arith, sym, ◌∙◌}
use Rattle.interface.proofs.Lowering.{pairs_turn, pairs_ended}
use Rattle.interface.proofs.put_numbers.Goals as goal

pub loop-i-preserved : goal.loop-i-preserved
loop-i-preserved c = sym (pairs_turn c.loop-i.out c.args.numbers.now c.loop-i.i (omega arith)) ∙ c.loop-i.invariant

pub returns : goal.returns
returns c = sym (pairs_ended c.loop-i.out c.args.numbers.now c.loop-i.i (omega arith)) ∙ c.loop-i.invariant
