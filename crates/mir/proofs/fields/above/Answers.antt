-- `mir::fields::above`, register by register.
use Prim.Native.Nat.{◌+◌, ◌-◌}
use mathlib.Core.Path.{sym, ap, ◌∙◌, ◌≡◌}
use native.Mathlib.Omega.{arith}
use Rattle.mir.specs.Read.{above}
use Rattle.mir.specs.Field.{bytes_at}
use Rattle.mir.proofs.Runs.{run-low}
use Rattle.mir.proofs.fields.above.Goals as goal

pub loop-at-preserved : goal.loop-at-preserved
loop-at-preserved c =
    let a = c.args in
    let l = c.loop-at in
    let left = a.i + a.n - l.at in
    let e : left - 1 ≡ a.i + a.n - (l.at + 1) = omega arith in
    ap (λ k. above a.last (bytes_at a.s.now (l.at + 1) k)) (sym e)
    ∙ sym (run-low a.last a.s.now l.at left (omega arith) (omega (arith, c.byte.ensures, c.if-last-byte.false)))
    ∙ l.invariant
