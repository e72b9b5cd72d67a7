-- `float::divide` meets its contract. Assumes nothing.
use lib.Ieee.{binary64, div}
use Rattle.float.proofs.Marks.{computed}
use Rattle.float.proofs.divide.Statement.{statement}
use Rattle.float.proofs.divide.Tie as tie

pub divide_spec : {M : Type 1} → statement M
divide_spec =
    tie.close
    (tie.spec
    (λ c κs. tt)
    (λ c κs. tt)
    (λ c κs. tt)
    (λ c. computed (div binary64) _ _ c.write.ensures c.read.ensures c.read-2.ensures))
