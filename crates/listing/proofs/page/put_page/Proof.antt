-- `page::put_page` meets its contract: two headings, each before its lines. Assumes nothing.
use borrow.Author.Rules.{rules}
use native.Mathlib.Omega.{arith}
use lib.ListN.{length}
use Rattle.records.specs.Record.{records}
use Rattle.text.proofs.Putting.{long, whole-fits, printing}
use Rattle.listing.proofs.Putting.{constants_short, paged}
use Rattle.listing.proofs.page.put_page.Statement.{statement}
use Rattle.listing.proofs.page.put_page.Tie as tie

pub put_page_spec : {M : Type 1} → statement M
put_page_spec =
    tie.close
    (tie.spec
    (λ c κs. search rules)
    (λ c κs.
    let p = c.constants_heading.ensures in
    let f = p.whole.fits in
    (omega (arith, f), whole-fits p))
    (λ c κs.
    let p = c.constants_heading.ensures in
    let q = printing p c.put_line-at.ensures in
    let n = p.whole.count in
    let f = p.whole.fits in
    let g = long q in
    let k = q.ends in
    omega (arith, n, f, g, k))
    (λ c κs. search rules) (λ c κs. search rules)
    (λ c κs.
    let a = c.args in
    let p = c.constants_heading.ensures in
    let q = printing p c.put_line-at.ensures in
    let n = p.whole.count in
    let f = p.whole.fits in
    let g = long q in
    let k = q.ends in
    let q2 = c.put_constants-at.ensures in
    let g2 = long q2 in
    let k2 = q2.ends in
    let s = constants_short 0 a.constants.now in
    let f2 = c.listing_heading.ensures.whole.fits in
    (omega (arith, n, f, g, k, g2, k2, s, f2), whole-fits c.listing_heading.ensures))
    (λ c κs.
    let a = c.args in
    let p = c.constants_heading.ensures in
    let q = printing p c.put_line-at.ensures in
    let n = p.whole.count in
    let f = p.whole.fits in
    let g = long q in
    let k = q.ends in
    let q2 = c.put_constants-at.ensures in
    let g2 = long q2 in
    let k2 = q2.ends in
    let s = constants_short 0 a.constants.now in
    let p3 = c.listing_heading.ensures in
    let q3 = printing p3 c.put_line-at-2.ensures in
    let n3 = p3.whole.count in
    let f3 = p3.whole.fits in
    let g3 = long q3 in
    let k3 = q3.ends in
    omega (arith, n, f, g, k, g2, k2, s, n3, f3, g3, k3))
    (λ c. search rules)
    (λ c.
    let a = c.args in
    paged a.constants.now (records (length a.constants.now) a.listing.now).items (length a.listing.now)
    (printing c.constants_heading.ensures c.put_line-at.ensures)
    c.put_constants-at.ensures
    c.count_records-n.ensures
    (printing c.listing_heading.ensures c.put_line-at-2.ensures)
    c.put_records.ensures))
