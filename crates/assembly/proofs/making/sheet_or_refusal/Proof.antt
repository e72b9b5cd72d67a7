-- `making::sheet_or_refusal` meets its contract.
use borrow.Author.Rules.{rules}
use native.Mathlib.Omega.{arith}
use Prim.Native.Nat.{◌≤◌}
use lib.ListN.{length}
use Rattle.assembly.proofs.Writing.{sheet-written, line-written}
use Rattle.assembly.proofs.making.sheet_or_refusal.Statement.{statement}
use Rattle.assembly.proofs.making.sheet_or_refusal.Tie as tie

pub sheet_or_refusal_spec : {M : Type 1} → statement M
sheet_or_refusal_spec =
    tie.close
    (tie.spec
    (λ c. search rules) (λ c κs. search rules)
    (λ c.
    let m = c.make-e in
    let h : m.result.len ≤ length m.new.out = omega (arith, m.ensures.1, m.auto.out) in
    sheet-written m.result m.new.out m.ensures.0 c.if-e-eq0.true h)
    (λ c κs. search rules) (λ c. search rules) (λ c. search rules) (λ c κs. search rules)
    (λ c.
    let l = c in
    let m = l.make-e in
    let h : 80 ≤ length m.new.out = search rules in
    line-written m.result m.new.out m.ensures.0 l.if-e-eq0.false l.refused_line-line.ensures h
    c.put.ensures))
