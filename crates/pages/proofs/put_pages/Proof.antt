-- `pages::put_pages` meets its contract.
use borrow.Author.Rules.{rules}
use native.Mathlib.Omega.{arith}
use Rattle.text.proofs.Putting.{long, renamed}
use Rattle.pages.specs.Printed.{rows_of}
use Rattle.pages.proofs.Laying.{few-lines, later, these, enough, no_pages}
use Rattle.pages.proofs.put_pages.Statement.{statement}
use Rattle.pages.proofs.put_pages.Tie as tie

pub put_pages_spec : {M : Type 1} → statement M
put_pages_spec =
    tie.close
    (tie.spec
    (λ c. let a = c.args in no_pages a.out.now a.first (rows_of a.listing.now a.constants.now) c.if-n-eq0.true)
    (λ c.
    let p = c in
    let a = p.args in
    let f = few-lines a.listing.now a.constants.now a.first a.n p.requires.0 (λ i. (c.shared_slice_known-1.given i).fits) p.requires.1.0 (omega arith) in
    omega (arith, f))
    (λ c κs. search rules)
    (λ c κs.
    let p = c in
    let a = p.args in
    let l = later a.listing.now a.constants.now a.first a.n p.requires.0 (λ i. (c.shared_slice_known-1.given i).fits) p.requires.1.0 (omega arith) in
    (p.requires.0, omega (arith, l, c.left_of.ensures)))
    (λ c.
    let p = c in
    let a = p.args in
    let f = few-lines a.listing.now a.constants.now a.first a.n p.requires.0 (λ i. (c.shared_slice_known-1.given i).fits) p.requires.1.0 (omega arith) in
    omega (arith, f))
    (λ c κs.
    let p = c in
    let a = p.args in (
      few-lines a.listing.now a.constants.now a.first a.n p.requires.0 (λ i. (c.shared_slice_known-1.given i).fits) p.requires.1.0 (omega arith),
      enough a.listing.now a.constants.now a.first a.n p.requires.0 (λ i. (c.shared_slice_known-1.given i).fits) c.left_of.ensures c.position-from.ensures a.out.now p.requires.1.1,
    ))
    (λ c. long c.put_lines.ensures)
    (λ c.
    let p = c in
    let a = p.args in
    renamed (these a.listing.now a.constants.now a.first a.n p.requires.0 (λ i. (c.shared_slice_known-1.given i).fits) c.left_of.ensures c.position-from.ensures) c.put_lines.ensures))
