-- `making::with_line` meets its contract.
use borrow.Author.Rules.{rules}
use Rattle.assembly.proofs.Growing.{refusing, no-second-mode, is_real, is-constant, is-instruction}
use Rattle.assembly.specs.Making.{sheet_of}
use Rattle.assembly.proofs.making.with_line.Statement.{statement}
use Rattle.assembly.proofs.making.with_line.Tie as tie

pub with_line_spec : {M : Type 1} → statement M
with_line_spec =
    tie.close
    (tie.spec
    (λ c κs. search rules)
    (λ c.
    let a = c.args in
    refusing 2 c.refuse.ensures (no-second-mode (sheet_of a.s a.out.now) a.b.now c.if-head-eq0.true))
    (λ c κs. search rules) (λ c. search rules)
    (λ c.
    let a = c.args in
    let s = sheet_of a.s a.out.now in
    is_real s a.b.now c.if-head-eq1.true c.with_real.ensures)
    (λ c κs. search rules) (λ c. search rules)
    (λ c.
    let a = c.args in
    let s = sheet_of a.s a.out.now in
    is-constant s a.b.now c.if-head-eq2.true c.with_constant.ensures)
    (λ c κs. search rules) (λ c. search rules)
    (λ c.
    let d = c.before.before.before.before in
    let a = d.args in
    is-instruction (sheet_of a.s a.out.now) a.b.now d.if-head-eq0.false d.if-head-eq1.false d.if-head-eq2.false
    c.with_instruction.ensures))
