-- `put_text` meets its contract. Assumes nothing.
use borrow.Author.Rules.{rules}
use native.Mathlib.Omega.{arith}
use Rattle.text.proofs.Putting.{renamed, whole-fits, printing}
use Rattle.listing.proofs.Answering.{refused-text, accepted-text}
use Rattle.listing.proofs.put_text.Statement.{statement}
use Rattle.listing.proofs.put_text.Tie as tie

pub put_text_spec : {M : Type 1} → statement M
put_text_spec =
    tie.close
    (tie.spec
    (λ c. search rules) (λ c κs. search rules)
    (λ c κs.
    let p = c.refusal.ensures in
    let f = p.whole.fits in
    (omega (arith, f), whole-fits p))
    (λ c. search rules)
    (λ c.
    let a = c.args in
    renamed (refused-text a.named a.a a.constants.now a.listing.now c.if-a-ne0.true) (printing c.refusal.ensures c.put_line.ensures))
    (λ c. search rules) (λ c. search rules) (λ c. search rules) (λ c. search rules) (λ c. search rules) (λ c. search rules)
    (λ c κs. search rules) (λ c. search rules)
    (λ c.
    let a = c.args in
    renamed (accepted-text a.named a.a a.constants.now a.listing.now c.if-a-ne0.false) c.put_page.ensures))
