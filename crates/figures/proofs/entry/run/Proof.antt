-- `run` meets its contract.
use borrow.Author.Rules.{rules}
use native.Mathlib.Omega.{arith}
use Prim.Native.Nat.{◌-◌}
use mathlib.Core.Path.{◌≡◌, refl, sym, ◌∙◌}
use lib.ListN.{length}
use Rattle.mir.proofs.Decoding.{ended}
use Rattle.lowering.specs.Labels.{none_standing}
use Rattle.sheet.specs.Instruction.{instruction_from}
use Rattle.sheet.proofs.Limit.{still, on-end}
use Rattle.figures.proofs.Taking.{turn_beyond, turn-halted, turn-taken, CountUnderway, underway-next, halted, stopped}
use Rattle.figures.proofs.entry.run.Statement.{statement}
use Rattle.figures.proofs.entry.run.Tie as tie

abbrev invariant-loop-p : tie.invariant-loop-p
invariant-loop-p sheet own mode marks₀ rows₀ constants₀ stage₀ start marks rows constants stage p =
    CountUnderway mode own sheet constants₀ start stage constants marks rows p
    × (length marks ≡ length marks₀)
    × (length rows ≡ length rows₀)
    × (length constants ≡ length constants₀)

abbrev decreases-loop-p : tie.decreases-loop-p
decreases-loop-p sheet own mode marks₀ rows₀ constants₀ stage₀ start marks rows constants stage p = length sheet - p.at

pub run_spec : {M : Type 1} → statement M
run_spec =
    tie.close
    (tie.spec
    invariant-loop-p
    decreases-loop-p
    (λ c. let p = c.requires in (record { ready = p.0; index = p.1.0; before = none_standing; noted = p.1.1; same = refl }, refl, refl, refl))
    (λ c κs. c.loop-p.invariant.0.ready.taken)
    (λ c. search rules) (λ c. search rules) (λ c. search rules)
    (λ c. let v = c.loop-p.invariant in
    c.figures_at.ensures ∙ halted v.0 (turn_beyond v.0.ready (omega arith) c.loop-p-test.true) refl)
    (λ c κs. search rules)
    (λ c κs. c.loop-p.invariant.0.ready.taken)
    (λ c. search rules) (λ c. search rules) (λ c. search rules)
    (λ c. let v = c.loop-p.invariant in
    c.figures_at-then-number-ne0.ensures ∙ halted v.0 (turn-halted v.0.ready (still v.0.index (λ z. omega (arith, z))) c.pass_at-number.ensures c.if-number-ne0.true) refl)
    (λ c. search rules)
    (λ c κs. let v = c.loop-p.invariant in (v.0.ready, let i = still v.0.index (λ z. omega (arith, z)) in omega (arith, i)))
    (λ c κs. let v = c.loop-p.invariant in (turn-taken v.0.ready (still v.0.index (λ z. omega (arith, z))) c.pass_at-number.ensures c.loop-p-test.true c.if-number-ne0.false c.one-t.ensures).turned.taken)
    (λ c. c.pass_at-number.auto.marks ∙ c.loop-p.invariant.1) (λ c. c.pass_at-number.auto.rows ∙ c.loop-p.invariant.2) (λ c. c.one-t.auto.constants ∙ c.loop-p.invariant.3)
    (λ c. let v = c.loop-p.invariant in
    c.figures_at-then-t.ensures ∙ halted v.0 (turn-taken v.0.ready (still v.0.index (λ z. omega (arith, z))) c.pass_at-number.ensures c.loop-p-test.true c.if-number-ne0.false c.one-t.ensures) c.if-t.true)
    (λ c. let v = c.loop-p.invariant in
    let h = (turn-taken v.0.ready (still v.0.index (λ z. omega (arith, z))) c.pass_at-number.ensures c.loop-p-test.true c.if-number-ne0.false c.one-t.ensures).on c.if-t.false in omega (arith, h))
    (λ c. let v = c.loop-p.invariant in let m = c.pass_at-number.auto in let k = c.one-t.auto in
    (underway-next v.0 (turn-taken v.0.ready (still v.0.index (λ z. omega (arith, z))) c.pass_at-number.ensures c.loop-p-test.true c.if-number-ne0.false c.one-t.ensures) k.stage (still v.0.index (λ z. omega (arith, z))) c.if-t.false, m.marks ∙ v.1, m.rows ∙ v.2, k.constants ∙ v.3))
    (λ c κs. c.loop-p.invariant.0.ready.taken)
    (λ c. search rules) (λ c. search rules) (λ c. search rules)
    (λ c. let v = c.loop-p.invariant.0 in let a = c.args in let l = c.loop-p in
    c.figures_at-2.ensures ∙ sym (stopped a.mode a.own a.sheet.now v.before l.constants l.p 0 v.ready (on-end a.own a.sheet.now l.p.at l.p.index (ended (instruction_from a.own) a.sheet.now l.p.at c.loop-p-test.false))) ∙ v.same))
