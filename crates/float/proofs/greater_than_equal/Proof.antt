-- `float::greater_than_equal` meets its contract. Assumes nothing.
use lib.Ieee.{le}
use Rattle.float.proofs.Marks.{compared}
use Rattle.float.proofs.greater_than_equal.Statement.{statement}
use Rattle.float.proofs.greater_than_equal.Tie as tie

pub greater_than_equal_spec : {M : Type 1} → statement M
greater_than_equal_spec =
    tie.close
    (tie.spec
    (λ c κs. tt)
    (λ c κs. tt)
    (λ c κs. tt)
    (λ c. compared (λ x y. le y x) c.flag.ensures c.read.ensures c.read-2.ensures))
