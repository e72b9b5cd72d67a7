-- `player::jumps::branch_breaks` meets its contract.
use Prim.Native.Nat.{◌<◌}
use native.Mathlib.Omega.{arith}
use mathlib.Core.Path.{sym}
use mathlib.Core.Bool.{not, ◌&&◌}
use lib.Dec.{ltb}
use borrow.Author.Tests.{ne_eqb, lt-ltb}
use Rattle.player.proofs.Rules.{or-or_true, or-false}
use Rattle.player.proofs.jumps.branch_breaks.Statement.{statement}
use Rattle.player.proofs.jumps.branch_breaks.Tie as tie

pub branch_breaks_spec : {M : Type 1} → statement M
branch_breaks_spec =
    tie.close
    (tie.spec
    (λ c. simp c.if-l-eq0.true)
    (λ c. simp c.if-l-eq1.true)
    (λ c.
    let a = c.args in
    let g : 1 < a.l = omega arith in
    simp (lt-ltb 1 _ g, ne_eqb _ _ c.if-l-eq0.false, ne_eqb _ _ c.if-l-eq1.false, c.if-inside.true)
    (or-or_true (not a.later) (ltb 2 a.l && a.stood)))
    (λ c. simp (c.if-l-eq2.true, c.if-later.true, c.if-inside.false))
    (λ c.
    let a = c.args in
    let g : 1 < a.l = omega arith in
    let h : 2 < a.l = omega arith in
    simp (lt-ltb 1 _ g, lt-ltb 2 _ h, ne_eqb _ _ c.if-l-eq0.false, ne_eqb _ _ c.if-l-eq1.false, c.if-later.true, c.if-inside.false)
    (sym (or-false a.stood)))
    (λ c.
    let a = c.args in
    let g : 1 < a.l = omega arith in
    simp (lt-ltb 1 _ g, c.if-later.false)))
