-- `float::greater_than` meets its contract. Assumes nothing.
use lib.Ieee.{lt}
use Rattle.float.proofs.Marks.{compared}
use Rattle.float.proofs.greater_than.Statement.{statement}
use Rattle.float.proofs.greater_than.Tie as tie

pub greater_than_spec : {M : Type 1} → statement M
greater_than_spec =
    tie.close
    (tie.spec
    (λ c κs. tt)
    (λ c κs. tt)
    (λ c κs. tt)
    (λ c. compared (λ x y. lt y x) c.flag.ensures c.read.ensures c.read-2.ensures))
