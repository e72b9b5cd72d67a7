-- `making::too_long` meets its contract.
use borrow.Author.Rules.{rules}
use native.Mathlib.Omega.{arith}
use Prim.Native.Nat.{ℕ, ◌≤◌}
use mathlib.Core.List.{List}
use lib.ListN.{length, replicate, length-replicate}
use Rattle.assembly.proofs.Writing.{line_first}
use Rattle.assembly.proofs.making.too_long.Statement.{statement}
use Rattle.assembly.proofs.making.too_long.Tie as tie

pub too_long_spec : {M : Type 1} → statement M
too_long_spec =
    tie.close
    (tie.spec
    (λ c κs. search rules) (λ c. search rules) (λ c. search rules) (λ c κs. search rules)
    (λ c.
    let out : List ℕ = replicate 69184 0 in
    let e = length-replicate {A = ℕ} 69184 0 in
    let h : 80 ≤ length out = omega (arith, e) in
    line_first out c.long_line-line.ensures h c.put.ensures))
