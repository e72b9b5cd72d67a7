-- `float::equal` meets its contract. Assumes nothing.
use lib.Ieee.{eq}
use Rattle.float.proofs.Marks.{compared}
use Rattle.float.proofs.equal.Statement.{statement}
use Rattle.float.proofs.equal.Tie as tie

pub equal_spec : {M : Type 1} → statement M
equal_spec =
    tie.close
    (tie.spec
    (λ c κs. tt)
    (λ c κs. tt)
    (λ c κs. tt)
    (λ c. compared eq c.flag.ensures c.read.ensures c.read-2.ensures))
