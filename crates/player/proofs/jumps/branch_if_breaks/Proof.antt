-- `player::jumps::branch_if_breaks` meets its contract.
use Prim.Native.Nat.{◌<◌}
use native.Mathlib.Omega.{arith}
use mathlib.Core.Path.{sym}
use mathlib.Core.Bool.{not, ◌&&◌}
use lib.Dec.{ltb}
use borrow.Author.Tests.{lt-ltb, le-ltb}
use Rattle.player.proofs.Rules.{or-true, or-or_true, or-false}
use Rattle.player.proofs.jumps.branch_if_breaks.Statement.{statement}
use Rattle.player.proofs.jumps.branch_if_breaks.Tie as tie

pub branch_if_breaks_spec : {M : Type 1} → statement M
branch_if_breaks_spec =
    tie.close
    (tie.spec
    (λ c.
    let a = c.args in
    simp (lt-ltb _ _ c.if-l-lt3.true) (or-or_true (ltb 1 a.l && not a.later) (ltb 2 a.l && a.stood)))
    (λ c.
    let a = c.args in
    simp (le-ltb _ _ c.if-l-lt3.false, c.if-inside.true) (or-or_true (ltb 1 a.l && not a.later) (ltb 2 a.l && a.stood)))
    (λ c.
    let a = c.args in
    let g : 1 < a.l = omega arith in
    let h : 2 < a.l = omega arith in
    simp (lt-ltb 1 _ g, lt-ltb 2 _ h, c.if-stood.true) (sym (or-true (not a.later))))
    (λ c.
    let a = c.args in
    let g : 1 < a.l = omega arith in
    let h : 2 < a.l = omega arith in
    simp (lt-ltb 1 _ g, lt-ltb 2 _ h, le-ltb _ _ c.if-l-lt3.false, c.if-inside.false, c.if-stood.false)
    (sym (or-false (not a.later)))))
