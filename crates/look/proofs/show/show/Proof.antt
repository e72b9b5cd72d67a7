-- `look::show::show` meets its contract.
use borrow.Author.Rules.{rules}
use mathlib.Core.Path.{◌∙◌}
use Rattle.look.proofs.Words.{copied, shows-none, shows-one, shows-two}
use Rattle.look.proofs.show.show.Statement.{statement}
use Rattle.look.proofs.show.show.Tie as tie

pub show_spec : {M : Type 1} → statement M
show_spec =
    tie.close
    (tie.spec
    (λ c. search rules) (λ c κs. search rules) (λ c. search rules) (λ c κs. search rules) (λ c κs. search rules)
    (λ c. let a = c.args in let k = copied a.constants.now a.s.now _ (c.requires ∙ search rules) c.put.ensures c.exec-worked.ensures in shows-none k c.if-not-worked.true c.nothing.ensures)
    (λ c κs. search rules) (λ c. search rules) (λ c κs. search rules)
    (λ c. let a = c.args in let k = copied a.constants.now a.s.now _ (c.requires ∙ search rules) c.put.ensures c.exec-worked.ensures in shows-one k c.requires (λ i. (c.shared_slice_known-1.given i).fits) c.if-not-worked.false c.fills-f.ensures c.if-f.true c.get-bits.ensures)
    (λ c. search rules) (λ c κs. search rules)
    (λ c. let a = c.args in let k = copied a.constants.now a.s.now _ (c.requires ∙ search rules) c.put.ensures c.exec-worked.ensures in shows-two k c.requires (λ i. (c.shared_slice_known-1.given i).fits) c.if-not-worked.false c.fills-f.ensures c.if-f.false c.get.ensures c.get-bits.ensures))
