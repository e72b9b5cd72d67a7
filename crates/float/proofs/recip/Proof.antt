-- `float::recip` meets its contract. Assumes nothing.
use mathlib.Core.Path.{refl}
use lib.Ieee.{binary64, div, of_bits}
use Rattle.float.proofs.Marks.{computed}
use Rattle.float.proofs.recip.Statement.{statement}
use Rattle.float.proofs.recip.Tie as tie

pub recip_spec : {M : Type 1} → statement M
recip_spec =
    tie.close
    (tie.spec
    (λ c κs. tt)
    (λ c κs. tt)
    (λ c. unfold of_bits in computed (div binary64) 0x3ff0_0000_0000_0000 c.args.a c.write.ensures refl c.read.ensures))
