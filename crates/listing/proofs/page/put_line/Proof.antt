-- `page::put_line` meets its contract.
use borrow.Author.Rules.{rules}
use native.Mathlib.Omega.{arith}
use lib.Seq.{length-take-le}
use Rattle.text.proofs.Putting.{putting}
use Rattle.listing.proofs.page.put_line.Statement.{statement}
use Rattle.listing.proofs.page.put_line.Tie as tie

pub put_line_spec : {M : Type 1} → statement M
put_line_spec =
    tie.close
    (tie.spec
    (λ c κs. search rules) (λ c. search rules)
    (λ c.
    let l = c.args.line in
    let n = length-take-le l.len l.bytes (omega arith) in
    putting (omega (arith, n)) c.put_line.ensures))
