-- `lines::real_place` meets its contract.
use borrow.Author.Tests.{lt-ltb, le-ltb}
use Rattle.assembly.proofs.lines.real_place.Statement.{statement}
use Rattle.assembly.proofs.lines.real_place.Tie as tie

pub real_place_spec : {M : Type 1} → statement M
real_place_spec =
    tie.close
    (tie.spec
    (λ c. simp (lt-ltb _ _ c.if-i-lt256.true))
    (λ c. simp (le-ltb _ _ c.if-i-lt256.false)))
