-- `pages::position` meets its contract.
use borrow.Author.Rules.{rules}
use lib.ListN.{length}
use Rattle.pages.proofs.Fitting.{taken}
use Rattle.pages.proofs.Laying.{first_record, from_later, judged_zero}
use Rattle.pages.proofs.position.Statement.{statement}
use Rattle.pages.proofs.position.Tie as tie

pub position_spec : {M : Type 1} → statement M
position_spec =
    tie.close
    (tie.spec
    (λ c. first_record c.args.listing.now c.if-k-eq0.true)
    (λ c κs. search rules)
    (λ c.
    let p = c.before.before.before.before in
    let a = p.args in
    let z = from_later a.listing.now (length a.constants.now) a.k (taken a.listing.now a.constants.now p.requires.0) p.requires.1 in
    c.judge-v.ensures.from (judged_zero c.judge-v.ensures z)))
