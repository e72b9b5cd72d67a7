-- `records_run` meets its contract.
use native.Mathlib.Omega.{arith}
use native.Mathlib.Nat.{mul-le-mul}
use Prim.Native.Nat.{◌*◌, ◌≤◌}
use borrow.Author.Tests.{eq-eqb, ne_eqb}
use Rattle.figures.proofs.entry.records_run.Statement.{statement}
use Rattle.figures.proofs.entry.records_run.Tie as tie

pub records_run_spec : {M : Type 1} → statement M
records_run_spec =
    tie.close
    (tie.spec
    (λ c. c.requires.block)
    (λ c. let w = c.requires in let t = c.args.taken in let x : t.calls ≤ 65536 = omega (arith, w.calls, w.records, w.bytes) in
    let y : t.block ≤ 65536 = omega (arith, w.block, w.records, w.bytes) in let h : t.calls * t.block ≤ 65536 * 65536 = mul-le-mul x y in omega (arith, h))
    (λ c. let w = c.requires in let t = c.args.taken in let x : t.calls ≤ 65536 = omega (arith, w.calls, w.records, w.bytes) in
    let y : t.block ≤ 65536 = omega (arith, w.block, w.records, w.bytes) in let h : t.calls * t.block ≤ 65536 * 65536 = mul-le-mul x y in omega (arith, h, w.records, w.bytes))
    (λ c. simp (eq-eqb _ _ c.if-taken-eq0.true))
    (λ c. let w = c.requires in let t = c.args.taken in let x : t.calls ≤ 65536 = omega (arith, w.calls, w.records, w.bytes) in
    let y : t.block ≤ 65536 = omega (arith, w.block, w.records, w.bytes) in let h : t.calls * t.block ≤ 65536 * 65536 = mul-le-mul x y in omega (arith, h))
    (λ c. let w = c.requires in let t = c.args.taken in let x : t.calls ≤ 65536 = omega (arith, w.calls, w.records, w.bytes) in
    let y : t.block ≤ 65536 = omega (arith, w.block, w.records, w.bytes) in let h : t.calls * t.block ≤ 65536 * 65536 = mul-le-mul x y in omega (arith, h, w.records, w.bytes))
    (λ c. simp (ne_eqb _ _ c.if-taken-eq0.false)))
