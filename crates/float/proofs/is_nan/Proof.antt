-- `float::is_nan` meets its contract: a pattern is a NaN's where, without its sign, it is above infinity's (`nan_bits_above`). Assumes nothing.
use mathlib.Core.Path.{sym, ap, ◌∙◌}
use lib.Dec.{ltb}
use lib.Bits.{and_mask}
use lib.Ieee.{binary64}
use lib.Ieee.Bits.{nan_bits_above}
use Rattle.float.proofs.is_nan.Statement.{statement}
use Rattle.float.proofs.is_nan.Tie as tie

returns : tie.Need-returns
returns c = ap (ltb 0x7ff0_0000_0000_0000) (and_mask c.args.a 63) ∙ sym (nan_bits_above binary64 c.args.a)

pub is_nan_spec : {M : Type 1} → statement M
is_nan_spec = tie.close (tie.spec returns)
