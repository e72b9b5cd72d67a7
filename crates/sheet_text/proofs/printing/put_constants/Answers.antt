-- The line of one constant more stands, and behind the last none is left.
use Rattle.std.proofs.Common.{ℕ, ◌≡◌, ◌-◌, ap, subst, arith}
use Rattle.sheet.specs.Setup.{constants_of, constants_from_on}
use Rattle.assembly.specs.SheetText.{constant_lines}
use Rattle.assembly.specs.Lines.{constant_line}
use Rattle.text.proofs.Putting.{long, line-put, renamed, Owes, all, less, none}
use Rattle.sheet_text.proofs.Turns.{constants-on, constants-end}
use Rattle.sheet_text.proofs.printing.put_constants.Goals as goal

pub loop-i-init : goal.loop-i-init
loop-i-init c =
    let a = c.args in
    let e : a.count ≡ a.count - 0 = omega arith in
    let lines = constant_lines (constants_of a.sheet.now a.count) in
    let left = λ (n : ℕ). Owes a.out.now a.start lines a.out.now a.start (constant_lines (constants_from_on a.sheet.now n 0)) in
    (omega arith, omega arith, subst left e (all (omega arith)))

pub loop-i-preserved : goal.loop-i-preserved
loop-i-preserved c =
    let a = c.args in
    let l = c.loop-i in
    let p = c.constant_line-line.ensures in
    let more = c.loop-i-test.true in
    let f = p.whole.fits in
    let n = p.whole.count in
    let near = l.invariant.0 in
    let room = l.invariant.1 in
    let q = line-put p (omega (arith, f, near, room, more)) c.put_line-at.ensures in
    let g = long q in
    let k = q.ends in (
      omega (arith, n, f, k, near),
      omega (arith, g, room),
      less l.invariant.2 (constants-on a.sheet.now a.count l.i more) (renamed (ap constant_line c.constant_at.ensures) q),
    )

pub returns : goal.returns
returns c =
    let a = c.args in
    let l = c.loop-i in
    let near = l.invariant.0 in
    (none l.invariant.2 (constants-end a.sheet.now a.count l.i (omega arith)), omega (arith, near))
