-- `pages::part` meets its contract.
use borrow.Author.Rules.{rules}
use native.Mathlib.Omega.{arith}
use Rattle.text.proofs.Putting.{long}
use Rattle.pages.proofs.Laying.{part-refused, zero_number, few-records, counted, part-within, part-short, part-full}
use Rattle.pages.proofs.part.Statement.{statement}
use Rattle.pages.proofs.part.Tie as tie

pub part_spec : {M : Type 1} → statement M
part_spec =
    tie.close
    (tie.spec
    (λ c κs. search rules) (λ c κs. search rules)
    (λ c. let a = c.args in part-refused a.listing.now a.constants.now a.out.now a.first a.most c.judge-v.ensures c.if-v-ne0.true c.refuse.ensures)
    (λ c. let a = c.args in let f = few-records a.listing.now a.constants.now a.out.now a.first a.most c.judge-v.ensures c.if-v-ne0.false in omega (arith, f.0, f.1))
    (λ c. let a = c.args in let f = few-records a.listing.now a.constants.now a.out.now a.first a.most c.judge-v.ensures c.if-v-ne0.false in omega (arith, f.0, f.1))
    (λ c κs. search rules) (λ c κs. search rules)
    (λ c.
    let a = c.args in
    let f = few-records a.listing.now a.constants.now a.out.now a.first a.most c.judge-v.ensures c.if-v-ne0.false in
    let k = part-within a.listing.now a.constants.now a.out.now a.first a.most c.judge-v.ensures c.if-v-ne0.false (λ i. (c.shared_slice_known-1.given i).fits) c.left_of.ensures c.lesser-n.ensures in
    let e = counted a.listing.now a.constants.now a.out.now a.first a.most c.judge-v.ensures c.if-v-ne0.false in
    omega (arith, f.0, f.1, k, e))
    (λ c κs. search rules)
    (λ c. let a = c.args in part-short a.listing.now a.constants.now a.out.now a.first a.most c.judge-v.ensures c.if-v-ne0.false (λ i. (c.shared_slice_known-1.given i).fits) c.left_of.ensures c.lesser-n.ensures c.if-out-n.true c.refuse-then-out-n.ensures)
    (λ c κs.
    let a = c.args in
    (zero_number a.listing.now a.constants.now a.out.now a.first a.most c.judge-v.ensures c.if-v-ne0.false, (part-within a.listing.now a.constants.now a.out.now a.first a.most c.judge-v.ensures c.if-v-ne0.false (λ i. (c.shared_slice_known-1.given i).fits) c.left_of.ensures c.lesser-n.ensures, omega (arith, c.if-out-n.false))))
    (λ c. long c.put_pages.ensures)
    (λ c. let a = c.args in part-full a.listing.now a.constants.now a.out.now a.first a.most c.judge-v.ensures c.if-v-ne0.false (λ i. (c.shared_slice_known-1.given i).fits) c.left_of.ensures c.lesser-n.ensures (omega (arith, c.if-out-n.false)) c.put_pages.ensures))
