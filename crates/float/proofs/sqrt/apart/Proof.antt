-- `float::sqrt::apart` meets its contract. Assumes nothing.
use mathlib.Core.Logic.{inl, inr}
use native.Mathlib.Omega.{arith}
use Rattle.float.proofs.sqrt.apart.Statement.{statement}
use Rattle.float.proofs.sqrt.apart.Tie as tie

pub apart_spec : {M : Type 1} → statement M
apart_spec = tie.close (tie.spec (λ c. omega arith) (λ c. inr (omega arith)) (λ c. inl (omega arith)))
