-- `seek_three` meets its contract.
use borrow.Author.Rules.{rules}
use native.Mathlib.Omega.{arith}
use mathlib.Core.Path.{ap}
use Rattle.rerun.proofs.Positions.{three_sought}
use Rattle.rerun.proofs.constants.seek_three.Statement.{statement}
use Rattle.rerun.proofs.constants.seek_three.Tie as tie

pub seek_three_spec : {M : Type 1} → statement M
seek_three_spec =
    tie.close
    (tie.spec
    (λ c κs. search rules)
    (λ c κs. let e = ap (λ a. a.count) c.nothing-none.ensures in (c.requires, omega (arith, e)))
    (λ c κs. let e = ap (λ a. a.count) c.nothing-none.ensures in let f = c.stable_const-f.ensures.few in (c.requires, omega (arith, e, f)))
    (λ c κs. let e = ap (λ a. a.count) c.nothing-none.ensures in let f = c.stable_const-f.ensures.few in let g = c.stable_const-g.ensures.few in (c.requires, omega (arith, e, f, g)))
    (λ c. three_sought c.nothing-none.ensures c.stable_const-f.ensures c.stable_const-g.ensures c.stable_const-h.ensures))
