-- `making::with_read` meets its contract.
use borrow.Author.Rules.{rules}
use Rattle.assembly.specs.Making.{part_of, sheet_of}
use Rattle.assembly.proofs.Growing.{read_first, read-later}
use Rattle.assembly.proofs.making.with_read.Statement.{statement}
use Rattle.assembly.proofs.making.with_read.Tie as tie

pub with_read_spec : {M : Type 1} → statement M
with_read_spec =
    tie.close
    (tie.spec
    (λ c κs. search rules) (λ c. search rules)
    (λ c.
    let a = c.args in
    let s = sheet_of a.s a.out.now in
    read_first s (part_of a.head) a.b.now c.if-s-eq0.true c.open.ensures)
    (λ c κs. search rules) (λ c. search rules)
    (λ c.
    let a = c.args in
    let s = sheet_of a.s a.out.now in
    read-later s (part_of a.head) a.b.now c.if-s-eq0.false c.with_line.ensures))
