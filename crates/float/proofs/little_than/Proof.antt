-- `float::little_than` meets its contract. Assumes nothing.
use lib.Ieee.{lt}
use Rattle.float.proofs.Marks.{compared}
use Rattle.float.proofs.little_than.Statement.{statement}
use Rattle.float.proofs.little_than.Tie as tie

pub little_than_spec : {M : Type 1} → statement M
little_than_spec =
    tie.close
    (tie.spec
    (λ c κs. tt)
    (λ c κs. tt)
    (λ c κs. tt)
    (λ c. compared lt c.flag.ensures c.read.ensures c.read-2.ensures))
