-- `making::grow` meets its contract.
use borrow.Author.Rules.{rules}
use Rattle.assembly.proofs.Growing.{fits}
use Rattle.assembly.proofs.making.grow.Statement.{statement}
use Rattle.assembly.proofs.making.grow.Tie as tie

pub grow_spec : {M : Type 1} → statement M
grow_spec =
    tie.close
    (tie.spec
    (λ c κs. search rules) (λ c. search rules) (λ c. search rules)
    (λ c.
    let d = c.before.before.before.before.before.before in
    let a = d.args in
    fits a.s a.out.now d.requires.0.0 a.count a.instructions d.requires.1 a.stage a.b.now d.requires.0.1 c.put.ensures))
