-- `making::make` meets its contract.
use borrow.Author.Rules.{rules}
use native.Mathlib.Omega.{arith}
use Prim.Native.Nat.{◌-◌}
use mathlib.Core.Path.{◌≡◌, refl}
use lib.ListN.{length}
use Rattle.assembly.proofs.Stepping.{MadeSoFar, at-start, inside, further, no_line, all_lines, refused-here, next-line}
use Rattle.assembly.proofs.making.make.Statement.{statement}
use Rattle.assembly.proofs.making.make.Tie as tie

abbrev invariant-loop-at : tie.invariant-loop-at
invariant-loop-at out₀ t s₀ at₀ k₀ out s at k = (length out ≡ length out₀) × MadeSoFar t s out at k

abbrev decreases-loop-at : tie.decreases-loop-at
decreases-loop-at out₀ t s₀ at₀ k₀ out s at k = length t - at

pub make_spec : {M : Type 1} → statement M
make_spec =
    tie.close
    (tie.spec
    invariant-loop-at
    decreases-loop-at
    (λ c κs. search rules)
    (λ c κs. search rules)
    (λ c.
    let d = c in
    let a = d.args in
    (refl, at-start a.t.now a.out.now c.text_start-at.result c.refuse-s.ensures d.requires c.text_start-at.ensures))
    (λ c κs. search rules)
    (λ c. let k = inside _ _ _ c.loop-at-test.true c.piece_end-end.ensures in omega (arith, k))
    (λ c. let k = inside _ _ _ c.loop-at-test.true c.piece_end-end.ensures in omega (arith, k))
    (λ c. let k = inside _ _ _ c.loop-at-test.true c.piece_end-end.ensures in omega (arith, k))
    (λ c κs. c.loop-at.invariant.1.room)
    (λ c.
    let d = c in
    let n = d.loop-at.invariant.1.near in
    omega (arith, n, d.loop-at-test.true))
    (λ c.
    let d = c in
    omega (arith, d.step-s.auto.out, d.loop-at.invariant.0))
    (λ c.
    let d = c in
    let v = d.loop-at in
    let p = d.piece_end-end in
    let t = d.args.t.now in (
      refused-here t v.s v.out v.at v.k p.result v.invariant.1 d.loop-at-test.true p.ensures
          c.step-s.ensures c.if-s-ne0.true,
      omega arith,
    ))
    (λ c κs. search rules)
    (λ c.
    let d = c in
    let n = d.loop-at.invariant.1.near in
    omega (arith, n, d.loop-at-test.true))
    (λ c.
    let d = c in
    let more = d.loop-at-test.true in
    let k = inside _ _ _ more d.piece_end-end.ensures in
    let t = d.args.t.now in
    let far = further t d.loop-at.at d.piece_end-end.result c.behind-at.result more k.0 c.behind-at.ensures in
    omega (arith, far, more))
    (λ c.
    let d = c in
    let v = d.loop-at in
    let p = d.piece_end-end in
    let more = d.loop-at-test.true in
    let k = inside _ _ _ more p.ensures in
    let q = c.step-s in
    let t = d.args.t.now in (
      omega (arith, q.auto.out, v.invariant.0),
      next-line t v.s v.out v.at v.k p.result v.invariant.1 more p.ensures q.ensures c.behind-at.result
          c.if-s-ne0.false k.0 c.behind-at.ensures (omega (arith, q.auto.out)),
    ))
    (λ c. omega (arith, c.loop-at.invariant.1.count))
    (λ c. omega (arith, c.loop-at.invariant.0))
    (λ c.
    let d = c in
    let v = d.loop-at in
    let t = d.args.t.now in
    (no_line t v.s v.out v.at v.k 0 v.invariant.1 (omega arith) c.if-s-eq0.true, omega arith))
    (λ c. omega (arith, c.loop-at.invariant.0))
    (λ c.
    let d = c in
    let v = d.loop-at in
    let t = d.args.t.now in
    (all_lines t v.s v.out v.at v.k 0 v.invariant.1 (omega arith) c.if-s-eq0.false, let r = v.invariant.1.room.1 in omega (arith, r.constants, r.instructions, r.bytes))))
