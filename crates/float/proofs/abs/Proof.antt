-- `float::abs` meets its contract. Assumes nothing.
use lib.Bits.{and_mask}
use Rattle.float.proofs.abs.Statement.{statement}
use Rattle.float.proofs.abs.Tie as tie

returns : tie.Need-returns
returns c = and_mask c.args.a 63

pub abs_spec : {M : Type 1} → statement M
abs_spec = tie.close (tie.spec returns)
