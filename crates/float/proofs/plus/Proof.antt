-- `float::plus` meets its contract. Assumes nothing.
use lib.Ieee.{binary64, add}
use Rattle.float.proofs.Marks.{computed}
use Rattle.float.proofs.plus.Statement.{statement}
use Rattle.float.proofs.plus.Tie as tie

pub plus_spec : {M : Type 1} → statement M
plus_spec =
    tie.close
    (tie.spec
    (λ c κs. tt)
    (λ c κs. tt)
    (λ c κs. tt)
    (λ c. computed (add binary64) _ _ c.write.ensures c.read.ensures c.read-2.ensures))
