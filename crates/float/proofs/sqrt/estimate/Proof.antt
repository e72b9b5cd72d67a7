-- `float::sqrt::estimate` meets its contract. Assumes nothing.
use native.Mathlib.Omega.{arith}
use Rattle.float.proofs.sqrt.estimate.Statement.{statement}
use Rattle.float.proofs.sqrt.estimate.Tie as tie

pub estimate_spec : {M : Type 1} → statement M
estimate_spec = tie.close (tie.spec (λ c. omega arith) (λ c. omega arith))
