-- `making::with_first` meets its contract.
use borrow.Author.Rules.{rules}
use native.Mathlib.Omega.{arith}
use mathlib.Core.Path.{sym, ap}
use native.Mathlib.Nat.{sub-zero}
use lib.ListN.{take}
use lib.Seq.{take_all}
use Rattle.assembly.specs.Making.{part_of, sheet_of, with_read}
use Rattle.assembly.proofs.Growing.{makes_as}
use Rattle.assembly.proofs.making.with_first.Statement.{statement}
use Rattle.assembly.proofs.making.with_first.Tie as tie

pub with_first_spec : {M : Type 1} → statement M
with_first_spec =
    tie.close
    (tie.spec
    (λ c. search rules) (λ c. search rules) (λ c. search rules) (λ c κs. search rules) (λ c. search rules)
    (λ c.
    let a = c.args in
    let s = sheet_of a.s a.out.now in
    makes_as (ap (λ n. with_read s (part_of a.head) (take n a.b.now)) (sub-zero a.n)) c.with_read.ensures)
    (λ c κs. search rules) (λ c. search rules)
    (λ c.
    let a = c.args in
    let s = sheet_of a.s a.out.now in
    let e = take_all a.n a.b.now (omega arith) in
    makes_as (ap (with_read s (part_of a.head)) (sym e)) c.with_read-2.ensures))
