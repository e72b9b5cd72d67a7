-- Each refusal by its tests, and the peaks by one law.
use Rattle.std.proofs.Common.{arith, rules, refl, ap, ◌∙◌, ◌%◌, length}
use borrow.Author.Tests.{eq-eqb, ne_eqb}
use mathlib.Core.Logic.{inl, inr}
use lib.ListN.{replicate}
use Rattle.peak.specs.Peak.{number, after}
use Rattle.peak_call.specs.PeakCall.{peak_call}
use Rattle.peak_call.proofs.Calling.{loaded, wrong-length, refused-words, given-words}
use Rattle.peak_call.proofs.tulipcricket_peak_unguarded.Goals as goal
use Rattle.peak_call.proofs.tulipcricket_peak_unguarded.Goals.{then-run-gt32768-via-then-run-gt32768, then-run-gt32768-via-else-run-gt32768+then-out-run}

pub returns-then-run-ne0 : goal.returns-then-run-ne0
unfolding peak_call
returns-then-run-ne0 c = simp (ne_eqb (length c.args.run.now % 8) 0 (λ h. omega arith))

pub returns-then-out-ne0 : goal.returns-then-out-ne0
unfolding peak_call
returns-then-out-ne0 c = simp (eq-eqb (length c.args.run.now % 8) 0 (omega arith), ne_eqb _ _ c.if-out-ne0.true)

pub returns-then-run-gt32768 : goal.returns-then-run-gt32768
returns-then-run-gt32768 c =
    let a = c.args in
    wrong-length a.run.now a.window a.out.now (omega arith) c.if-out-ne0.false (λ i _. (c.type_inv.out i).fits)
    (elim c.then-run-gt32768.branch [
      | then-run-gt32768-via-then-run-gt32768 w ↦ inl w.if-run-gt32768.true
      | then-run-gt32768-via-else-run-gt32768+then-out-run w ↦ inr w.if-out-run.true
    ])

pub returns-in-Ok : goal.returns-in-Ok
returns-in-Ok c =
    let a = c.args in
    let w = loaded a.run.now (replicate 4096 0) c.load.ensures (omega arith) in
    given-words a.run.now a.window a.out.now (omega arith) c.if-out-ne0.false
    (λ i _. search rules) c.if-run-gt32768.false c.if-out-run.false (replicate 4096 0) refl
    (c.in-Ok.ensures.0 ∙ ap (λ x. number x a.window (replicate 4096 0)) w) refl
    (c.in-Ok.ensures.1 ∙ ap (λ x. after x a.window (replicate 4096 0)) w) c.save.ensures

pub returns-in-Err : goal.returns-in-Err
returns-in-Err c =
    let a = c.args in
    let w = loaded a.run.now (replicate 4096 0) c.load.ensures (omega arith) in
    refused-words a.run.now a.window a.out.now (omega arith) c.if-out-ne0.false
    (λ i _. (c.type_inv.out i).fits) c.if-run-gt32768.false c.if-out-run.false (replicate 4096 0) refl
    (c.in-Err.ensures.0 ∙ ap (λ x. number x a.window (replicate 4096 0)) w) (λ h. omega arith)
