-- `float::minus` meets its contract. Assumes nothing.
use lib.Ieee.{binary64, sub}
use Rattle.float.proofs.Marks.{computed}
use Rattle.float.proofs.minus.Statement.{statement}
use Rattle.float.proofs.minus.Tie as tie

pub minus_spec : {M : Type 1} → statement M
minus_spec =
    tie.close
    (tie.spec
    (λ c κs. tt)
    (λ c κs. tt)
    (λ c κs. tt)
    (λ c. computed (sub binary64) _ _ c.write.ensures c.read.ensures c.read-2.ensures))
