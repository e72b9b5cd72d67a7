-- None is stored, one more is, and all are.
use Rattle.std.proofs.Common.{arith, sym, ap, ◌∙◌}
use native.Mathlib.Nat.{zero-add}
use Rattle.sheet.specs.Setup.{constant_at, constants_of}
use Rattle.sheet.proofs.Setting.{length_constants}
use Rattle.words.proofs.Copying.{ended}
use Rattle.refusals.proofs.Storing.{stored}
use Rattle.complexify.proofs.Copies.{nth}
use Rattle.complexify.proofs.copying.copy_constants.Goals as goal

pub loop-i-init : goal.loop-i-init
loop-i-init c = simp zero-add

pub loop-i-preserved : goal.loop-i-preserved
loop-i-preserved c =
    let a = c.args in
    let l = c.loop-i in
    let b = constants_of a.sheet.now a.count in
    let n = length_constants a.sheet.now a.count 0 in
    let v = c.constant_at.ensures ∙ ap (constant_at a.sheet.now) (sym (zero-add l.i)) ∙ sym (nth a.sheet.now a.count 0 l.i (omega arith)) in
    stored l.constants b l.i v (omega (arith, n)) ∙ l.invariant

pub returns : goal.returns
returns c =
    let a = c.args in
    let l = c.loop-i in
    let n = length_constants a.sheet.now a.count 0 in
    sym (ended l.constants (constants_of a.sheet.now a.count) 0 l.i (omega (arith, n))) ∙ l.invariant
