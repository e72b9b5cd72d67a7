-- `making::step` meets its contract.
use borrow.Author.Rules.{rules}
use native.Mathlib.Omega.{arith}
use Rattle.assembly.specs.Making.{sheet_of}
use Rattle.assembly.proofs.Cutting.{ends_within, comment_cut}
use Rattle.assembly.proofs.Stepping.{by-words}
use Rattle.assembly.proofs.making.step.Statement.{statement}
use Rattle.assembly.proofs.making.step.Tie as tie

pub step_spec : {M : Type 1} → statement M
step_spec =
    tie.close
    (tie.spec
    (λ c κs. search rules)
    (λ c. omega arith)
    (λ c. omega arith)
    (λ c. let k = ends_within 35 c.args.l.now 0 c.piece_end-end.result (omega arith) c.piece_end-end.ensures in omega (arith, k))
    (λ c κs. search rules)
    (λ c. search rules)
    (λ c.
    let a = c.args in
    let p = c.piece_end-end in
    by-words (sheet_of a.s a.out.now) a.l.now (comment_cut a.l.now p.result p.ensures) c.with_words.ensures))
