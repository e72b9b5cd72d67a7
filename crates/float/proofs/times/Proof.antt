-- `float::times` meets its contract. Assumes nothing.
use lib.Ieee.{binary64, mul}
use Rattle.float.proofs.Marks.{computed}
use Rattle.float.proofs.times.Statement.{statement}
use Rattle.float.proofs.times.Tie as tie

pub times_spec : {M : Type 1} → statement M
times_spec =
    tie.close
    (tie.spec
    (λ c κs. tt)
    (λ c κs. tt)
    (λ c κs. tt)
    (λ c. computed (mul binary64) _ _ c.write.ensures c.read.ensures c.read-2.ensures))
