-- `making::with_constant` meets its contract.
use borrow.Author.Rules.{rules}
use native.Mathlib.Omega.{arith}
use Rattle.assembly.specs.Making.{sheet_of}
use Rattle.assembly.proofs.Growing.{makes_as, refusing, constant-late, constant-many, constant-put}
use Rattle.assembly.proofs.making.with_constant.Statement.{statement}
use Rattle.assembly.proofs.making.with_constant.Tie as tie

pub with_constant_spec : {M : Type 1} → statement M
with_constant_spec =
    tie.close
    (tie.spec
    (λ c κs. search rules)
    (λ c.
    let a = c.args in
    refusing 2 c.refuse.ensures (constant-late (sheet_of a.s a.out.now) a.b.now (omega arith)))
    (λ c κs. search rules)
    (λ c.
    let a = c.args in
    refusing 1 c.refuse-then-count-ge251.ensures (constant-many (sheet_of a.s a.out.now) a.b.now (omega arith) c.if-count-ge251.true))
    (λ c. search rules) (λ c κs. search rules) (λ c. search rules)
    (λ c.
    let a = c.args in
    makes_as (constant-put (sheet_of a.s a.out.now) a.b.now (omega arith) (omega arith)) c.grow.ensures))
