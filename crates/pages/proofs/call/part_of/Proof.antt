-- `pages::call::part_of` meets its contract.
use borrow.Author.Rules.{rules}
use native.Mathlib.Omega.{arith}
use mathlib.Core.Path.{sym}
use lib.Seq.{length-take-le}
use Rattle.words.proofs.Stored.{loaded}
use Rattle.pages.proofs.Calls.{torn-words, too_many, whole_words}
use Rattle.pages.proofs.call.part_of.Statement.{statement}
use Rattle.pages.proofs.call.part_of.Tie as tie

pub part_of_spec : {M : Type 1} → statement M
part_of_spec =
    tie.close
    (tie.spec
    (λ c κs. search rules)
    (λ c.
    let a = c.args in
    torn-words a.first a.most a.listing.now a.constants.now a.out.now (omega arith) c.refuse.ensures)
    (λ c κs. search rules)
    (λ c.
    let a = c.args in
    too_many a.first a.most a.listing.now a.constants.now a.out.now (omega arith) c.if-n-gt256.true c.refuse-then-n-gt256.ensures)
    (λ c. search rules) (λ c κs. search rules) (λ c. search rules)
    (λ c. sym (length-take-le _ _ (search rules)))
    (λ c κs. search rules) (λ c. search rules)
    (λ c.
    let a = c.args in
    whole_words a.first a.most a.listing.now a.constants.now a.out.now (omega arith)
    (loaded _ a.constants.now c.load.ensures (search rules)) c.part.ensures))
