-- `put_part` meets its contract: a refusal, no page, or pages.
use borrow.Author.Rules.{rules}
use native.Mathlib.Omega.{arith}
use Prim.Native.Nat.{◌-◌}
use Rattle.text.specs.Text.{ascii}
use Rattle.print_pages.proofs.Showing.{least_left, shows-refusal, shows-none, shows-pages}
use Rattle.print_pages.proofs.put_part.Statement.{statement}
use Rattle.print_pages.proofs.put_part.Tie as tie

pub put_part_spec : {M : Type 1} → statement M
unfolding ascii
put_part_spec =
    tie.close
    (tie.spec
    (λ c κs. search rules) (λ c. search rules) (λ c κs. search rules) (λ c κs. search rules) (λ c. search rules)
    (λ c.
    let a = c.args in
    shows-refusal a.first a.listing.now a.constants.now a.out.now c.requires (λ i. (c.shared_slice_known-1.given i).fits) c.part_of-a.result c.part_of-a.ensures c.if-a-ne0.true c.refusal_line.ensures c.put_line-len.ensures)
    (λ c. search rules) (λ c. search rules)
    (λ c.
    let a = c.args in
    shows-none a.first a.listing.now a.constants.now a.out.now c.requires (λ i. (c.shared_slice_known-1.given i).fits) c.part_of-a.result c.part_of-a.ensures c.if-a-ne0.false c.if-a-eq0.true c.put-len.ensures)
    (λ c κs. search rules)
    (λ c.
    let a = c.args in
    let h = least_left 112 (c.part_of-a.result.pages - a.first) in
    omega (arith, h, c.at_once.ensures))
    (λ c. search rules)
    (λ c.
    let a = c.args in
    shows-pages a.first a.listing.now a.constants.now a.out.now c.requires (λ i. (c.shared_slice_known-1.given i).fits) c.part_of-a.result c.part_of-a.ensures c.if-a-ne0.false c.if-a-eq0.false c.at_once.ensures))
