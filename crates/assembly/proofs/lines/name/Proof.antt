-- `lines::name` meets its contract.
use borrow.Author.Tests.{eq-eqb, ne_eqb}
use Rattle.assembly.proofs.lines.name.Statement.{statement}
use Rattle.assembly.proofs.lines.name.Tie as tie

pub name_spec : {M : Type 1} → statement M
name_spec =
    tie.close
    (tie.spec
    (λ c. simp (eq-eqb _ _ c.if-r-eq30.true))
    (λ c. simp (ne_eqb _ _ c.if-r-eq30.false, eq-eqb _ _ c.if-r-eq31.true))
    (λ c. simp (ne_eqb _ _ c.if-r-eq30.false, ne_eqb _ _ c.if-r-eq31.false)))
