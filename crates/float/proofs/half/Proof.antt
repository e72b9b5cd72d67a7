-- `float::half` meets its contract. Assumes nothing.
use mathlib.Core.Path.{refl}
use lib.Ieee.{binary64, mul, of_bits}
use Rattle.float.proofs.Marks.{computed}
use Rattle.float.proofs.half.Statement.{statement}
use Rattle.float.proofs.half.Tie as tie

pub half_spec : {M : Type 1} → statement M
half_spec =
    tie.close
    (tie.spec
    (λ c κs. tt)
    (λ c κs. tt)
    (λ c. unfold of_bits in computed (mul binary64) c.args.a 0x3fe0_0000_0000_0000 c.write.ensures c.read.ensures refl))
