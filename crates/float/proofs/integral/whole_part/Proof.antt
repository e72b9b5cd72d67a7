-- `float::integral::whole_part` meets its contract: with more than 63 digits below the point nothing is left. Assumes nothing.
use mathlib.Core.Path.{sym}
use native.Mathlib.Nat.{div-eq_of_lt, lt_of_lt_of_le}
use lib.Pow.{pow_mono}
use borrow.Author.Rules.{rules}
use Rattle.float.proofs.integral.whole_part.Statement.{statement}
use Rattle.float.proofs.integral.whole_part.Tie as tie

shr-result : tie.Need-overflow_shr-result
shr-result c = search rules

returns : tie.Need-returns-then-t-gt63
returns c = let s = c.before in sym (div-eq_of_lt (lt_of_lt_of_le s.ranges.m.fits (pow_mono c.if-t-gt63.true)))

returns-2 : tie.Need-returns-else-t-gt63
returns-2 c = search rules

pub whole_part_spec : {M : Type 1} → statement M
whole_part_spec = tie.close (tie.spec shr-result returns returns-2)
