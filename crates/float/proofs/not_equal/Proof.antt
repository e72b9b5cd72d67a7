-- `float::not_equal` meets its contract. Assumes nothing.
use lib.Ieee.{ne}
use Rattle.float.proofs.Marks.{compared}
use Rattle.float.proofs.not_equal.Statement.{statement}
use Rattle.float.proofs.not_equal.Tie as tie

pub not_equal_spec : {M : Type 1} → statement M
not_equal_spec =
    tie.close
    (tie.spec
    (λ c κs. tt)
    (λ c κs. tt)
    (λ c κs. tt)
    (λ c. compared ne c.flag.ensures c.read.ensures c.read-2.ensures))
