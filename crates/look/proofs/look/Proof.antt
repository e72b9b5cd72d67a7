-- `look::look` meets its contract: refused, at the end, or at a record.
use borrow.Author.Rules.{rules}
use Rattle.look.proofs.Looks.{turned, at-the-end, standing, inside, store_long, shown-there}
use Rattle.look.proofs.look.Statement.{statement}
use Rattle.look.proofs.look.Tie as tie

pub look_spec : {M : Type 1} → statement M
look_spec =
    tie.close
    (tie.spec
    (λ c κs. search rules) (λ c κs. search rules)
    (λ c. let a = c.args in turned a.listing.now a.constants.now a.store.now a.start c.judge-v.ensures c.if-v-ne0.true c.unshown.ensures)
    (λ c κs. search rules)
    (λ c. let a = c.args in at-the-end a.listing.now a.constants.now a.store.now a.start c.judge-v.ensures c.if-v-ne0.false c.if-start-v.true c.unshown-then-start-v.ensures)
    (λ c κs. let a = c.args in standing a.listing.now a.constants.now a.store.now a.start c.judge-v.ensures c.if-v-ne0.false c.if-start-v.false)
    (λ c. let a = c.args in inside a.listing.now a.constants.now a.store.now a.start c.judge-v.ensures c.if-v-ne0.false c.if-start-v.false)
    (λ c. let a = c.args in inside a.listing.now a.constants.now a.store.now a.start c.judge-v.ensures c.if-v-ne0.false c.if-start-v.false)
    (λ c. search rules)
    (λ c κs. let a = c.args in store_long a.listing.now a.constants.now a.store.now a.start c.judge-v.ensures c.if-v-ne0.false)
    (λ c. let a = c.args in shown-there a.listing.now a.constants.now a.store.now a.start c.judge-v.ensures c.if-v-ne0.false c.if-start-v.false c.following-follows.ensures c.show-w.ensures))
