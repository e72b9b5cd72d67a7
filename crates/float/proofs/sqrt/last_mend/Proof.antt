-- `float::sqrt::last_mend` meets its contract. Assumes nothing.
use mathlib.Core.Path.{◌≡◌, ap}
use mathlib.Core.Bool.{Bool, cond}
use Prim.Native.Nat.{ℕ, ◌-◌}
use native.Mathlib.Omega.{arith}
use lib.Dec.{leb}
use borrow.Author.Tests.{le-leb, lt-leb}
use Rattle.float.proofs.Heron.{less}
use Rattle.float.proofs.sqrt.last_mend.Statement.{statement}
use Rattle.float.proofs.sqrt.last_mend.Tie as tie

abbrev units : Bool → ℕ
units b = cond b 0 1

returns : tie.Need-returns-then-under-over
returns c =
    let a = c.args in
    let one : units (leb a.over a.under) ≡ 1 = ap units (lt-leb a.over a.under c.if-under-over.true) in
    (omega (arith, one), omega (arith, less a.q (a.q - 1) (omega arith)), omega arith, omega (arith, one))

returns-2 : tie.Need-returns-else-under-over
returns-2 c =
    let a = c.args in
    let none : units (leb a.over a.under) ≡ 0 = ap units (le-leb a.over a.under c.if-under-over.false) in
    (omega (arith, none), omega arith, omega arith, omega (arith, none))

pub last_mend_spec : {M : Type 1} → statement M
last_mend_spec =
    tie.close
    (tie.spec (λ c. omega arith) (λ c. omega arith) (λ c. omega arith) (λ c. omega arith) (λ c. omega arith) (λ c. omega arith) returns returns-2)
