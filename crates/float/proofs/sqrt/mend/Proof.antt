-- `float::sqrt::mend` meets its contract: m / u is no more than m. Assumes nothing.
use native.Mathlib.Nat.{div-le_self}
use native.Mathlib.Omega.{arith}
use borrow.Author.Rules.{rules}
use Rattle.float.proofs.sqrt.mend.Statement.{statement}
use Rattle.float.proofs.sqrt.mend.Tie as tie

pub mend_spec : {M : Type 1} → statement M
mend_spec =
    tie.close
    (tie.spec
    (λ c. search rules)
    (λ c. omega (arith, div-le_self c.args.m c.args.u))
    (λ c. search rules)
    (λ c. (search rules, omega (arith, div-le_self c.args.m c.args.u), search rules)))
