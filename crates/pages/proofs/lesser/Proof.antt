-- `pages::lesser` meets its contract.
use borrow.Author.Tests.{lt-ltb, le-ltb}
use Rattle.pages.proofs.lesser.Statement.{statement}
use Rattle.pages.proofs.lesser.Tie as tie

pub lesser_spec : {M : Type 1} → statement M
lesser_spec = tie.close (tie.spec (λ c. simp (lt-ltb _ _ c.if-a-b.true)) (λ c. simp (le-ltb _ _ c.if-a-b.false)))
