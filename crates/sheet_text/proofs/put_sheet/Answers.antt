-- `put_sheet`: a setup that is wrong, an instruction that is refused, or the text.
use native.Mathlib.Omega.{arith}
use Prim.Native.Nat.{◌≤◌}
use mathlib.Core.Path.{refl, ap}
use Rattle.std.specs.Prelude.{Ok}
use Rattle.sheet.specs.Setup.{as_setup}
use Rattle.sheet.proofs.Setting.{set-up}
use Rattle.sheet.proofs.Setting as Setting
use Rattle.text.proofs.Putting.{line-put, renamed}
use Rattle.sheet_text.proofs.Turns.{unset, refused, printed, few}
use Rattle.sheet_text.proofs.put_sheet.Goals as goal

pub returns-in_default : goal.returns-in_default
returns-in_default c =
    let a = c.args in
    let p = c.refusal_line.ensures in
    let f = p.whole.fits in
    renamed (unset a.sheet.now (as_setup c.read_setup.result) c.read_setup.ensures (Setting.unset a.sheet.now c.read_setup.ensures c.in_default.is)) (line-put p (omega (arith, f)) c.put_line.ensures)

pub returns-then-seen-ne0 : goal.returns-then-seen-ne0
returns-then-seen-ne0 c =
    let a = c.args in
    let p = c.refusal_line-then-seen-ne0.ensures in
    let f = p.whole.fits in
    let e = c.examined-seen.ensures in
    renamed
    (refused a.sheet.now (as_setup (Ok c.in-Ok.s)) (set-up a.sheet.now c.read_setup.ensures c.in-Ok.is) refl (ap (λ s. s.number) e) (ap (λ s. s.index) e) c.if-seen-ne0.true)
    (line-put p (omega (arith, f)) c.put_line-then-seen-ne0.ensures)

pub put_lines-requires-clause-count_bound : goal.put_lines-requires-clause-count_bound
put_lines-requires-clause-count_bound c = let a = c.args in few a.sheet.now (as_setup (Ok c.in-Ok.s)) (set-up a.sheet.now c.read_setup.ensures c.in-Ok.is) refl

pub returns : goal.returns
returns c =
    let a = c.args in
    let e = c.examined-seen.ensures in
    renamed
    (printed a.sheet.now (as_setup (Ok c.in-Ok.s)) (set-up a.sheet.now c.read_setup.ensures c.in-Ok.is) refl (ap (λ s. s.number) e) (ap (λ s. s.index) e) c.if-seen-ne0.false)
    c.put_lines.ensures
