-- `run` meets its contract. The invariant: what is left to do from where lowering stands is the whole answer.
use borrow.Author.Rules.{rules}
use native.Mathlib.Omega.{arith}
use Prim.Native.Nat.{◌-◌}
use mathlib.Core.Path.{◌≡◌, refl, sym, ◌∙◌}
use lib.ListN.{length}
use Rattle.mir.proofs.Decoding.{ended}
use Rattle.sheet.specs.Instruction.{instruction_from}
use Rattle.sheet.proofs.Limit.{still}
use Rattle.complexify.proofs.Turns.{turn_beyond, turn-halted, turn-taken, Underway, underway-first, underway-next, ran-refused, ran-ended}
use Rattle.lowering.specs.Labels.{none_standing}
use Rattle.complexify.specs.Taken.{left}
use Rattle.complexify.proofs.Dating.{Dating, dating-first, dating-next, not-before, dated-refused, dated-ended}
use Rattle.complexify.proofs.entry.run.Statement.{statement}
use Rattle.complexify.proofs.entry.run.Tie as tie

abbrev invariant-loop-p : tie.invariant-loop-p
invariant-loop-p sheet own mode marks₀ rows₀ listing₀ constants₀ origins₀ stage₀ start marks rows listing constants origins stage p =
    Underway mode own sheet listing₀ constants₀ start stage listing constants marks rows p
    × (length marks ≡ length marks₀)
    × (length rows ≡ length rows₀)
    × (length listing ≡ length listing₀)
    × (length constants ≡ length constants₀)
    × (length origins ≡ length origins₀)
    × Dating (left mode (length listing₀) own sheet none_standing listing₀ constants₀ start).index mode own sheet constants₀ start origins₀ constants p origins

abbrev decreases-loop-p : tie.decreases-loop-p
decreases-loop-p sheet own mode marks₀ rows₀ listing₀ constants₀ origins₀ stage₀ start marks rows listing constants origins stage p = length sheet - p.at

pub run_spec : {M : Type 1} → statement M
run_spec =
    tie.close
    (tie.spec
    invariant-loop-p
    decreases-loop-p
    (λ c. let p = c.requires in (underway-first p.0 p.1.0 p.1.1.1, refl, refl, refl, refl, refl, dating-first p.0.count p.1.1.0))
    (λ c κs. search rules) (λ c. search rules) (λ c. search rules) (λ c. search rules) (λ c. search rules) (λ c. search rules)
    (λ c. let v = c.loop-p.invariant in let t = turn_beyond v.0.ready (omega arith) c.loop-p-test.true in
    (ran-refused v.0 t refl c.stop_at.ensures, dated-refused v.0 v.6 t refl c.stop_at.ensures))
    (λ c κs. search rules) (λ c κs. search rules) (λ c. search rules) (λ c. search rules) (λ c. search rules) (λ c. search rules) (λ c. search rules)
    (λ c. let v = c.loop-p.invariant in let t = turn-halted v.0.ready (still v.0.index (λ z. omega (arith, z))) c.pass_at-number.ensures c.if-number-ne0.true in
    (ran-refused v.0 t refl c.stop_at-then-number-ne0.ensures, dated-refused v.0 v.6 t refl c.stop_at-then-number-ne0.ensures))
    (λ c. search rules)
    (λ c κs. let v = c.loop-p.invariant in (v.0.ready, let i = still v.0.index (λ z. omega (arith, z)) in omega (arith, i)))
    (λ c κs. search rules)
    (λ c. c.pass_at-number.auto.marks ∙ c.loop-p.invariant.1) (λ c. c.pass_at-number.auto.rows ∙ c.loop-p.invariant.2)
    (λ c. c.one-t.auto.listing ∙ c.loop-p.invariant.3) (λ c. c.one-t.auto.constants ∙ c.loop-p.invariant.4)
    (λ c. c.loop-p.invariant.5)
    (λ c. let v = c.loop-p.invariant in let t = (turn-taken v.0.ready (still v.0.index (λ z. omega (arith, z))) c.pass_at-number.ensures c.loop-p-test.true c.if-number-ne0.false c.one-t.ensures) in
    (ran-refused v.0 t c.if-t.true c.stop_at-then-t.ensures, dated-refused v.0 v.6 t c.if-t.true c.stop_at-then-t.ensures))
    (λ c. let i = c.loop-p.invariant.0.index in omega (arith, i))
    (λ c κs. let v = c.loop-p.invariant in let w = (turn-taken v.0.ready (still v.0.index (λ z. omega (arith, z))) c.pass_at-number.ensures c.loop-p-test.true c.if-number-ne0.false c.one-t.ensures).turned.words in let n = v.0.ready.words in let m = v.6.long in (w.more, let f = w.fits in omega (arith, f, n, m)))
    (λ c. let v = c.loop-p.invariant in let h = (turn-taken v.0.ready (still v.0.index (λ z. omega (arith, z))) c.pass_at-number.ensures c.loop-p-test.true c.if-number-ne0.false c.one-t.ensures).on c.if-t.false in let i = c.loop-p-test.true in omega (arith, h, i))
    (λ c. let v = c.loop-p.invariant in let m = c.pass_at-number.auto in let k = c.one-t.auto in let t = (turn-taken v.0.ready (still v.0.index (λ z. omega (arith, z))) c.pass_at-number.ensures c.loop-p-test.true c.if-number-ne0.false c.one-t.ensures) in let z = c.if-t.false in
    let u = underway-next v.0 t k.stage (still v.0.index (λ z. omega (arith, z))) z in
    let d = dating-next v.6 t z (not-before u) v.0.ready.words c.put_origins.ensures in
    (u, m.marks ∙ v.1, m.rows ∙ v.2, k.listing ∙ v.3, k.constants ∙ v.4, d.long ∙ sym v.6.long ∙ v.5, d))
    (λ c κs. search rules) (λ c. search rules) (λ c. search rules) (λ c. search rules) (λ c. search rules) (λ c. search rules)
    (λ c. let v = c.loop-p.invariant in let a = c.args in let x = ended (instruction_from a.own) a.sheet.now c.loop-p.p.at c.loop-p-test.false in
    (ran-ended v.0 x c.stop_at-2.ensures, dated-ended v.0 v.6 x c.stop_at-2.ensures)))
