-- `making::open` meets its contract.
use borrow.Author.Rules.{rules}
use Rattle.assembly.proofs.Growing.{refusing, no_mode, mode_put}
use Rattle.assembly.proofs.making.open.Statement.{statement}
use Rattle.assembly.proofs.making.open.Tie as tie

pub open_spec : {M : Type 1} → statement M
open_spec =
    tie.close
    (tie.spec
    (λ c κs. search rules)
    (λ c.
    let a = c.args in
    refusing 0 c.refuse.ensures (no_mode a.head a.b.now c.if-head-ne0.true))
    (λ c κs. search rules) (λ c. search rules) (λ c κs. search rules) (λ c. search rules) (λ c. search rules)
    (λ c.
    let p = c.before.before.before.before.before.before.before in
    let d = p.before.before.before.before.before in
    let a = d.args in
    mode_put a.head a.out.now a.b.now p.if-head-ne0.false d.requires.1 d.requires.0 p.put.ensures
    (search rules) c.put-2.ensures))
