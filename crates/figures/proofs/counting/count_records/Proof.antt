-- `count_records` meets its contract.
use borrow.Author.Rules.{rules}
use native.Mathlib.Omega.{arith}
use Prim.Native.Nat.{◌-◌}
use mathlib.Core.Path.{◌≡◌, ap}
use lib.ListN.{length}
use Rattle.figures.specs.declared.counting.BlockStep.{BlockStep}
use Rattle.figures.specs.Walk.{block_step}
use Rattle.figures.proofs.Walks.{calls_few, block_few, finish, Walking, walking_first, forth, walking-next}
use Rattle.figures.proofs.counting.count_records.Statement.{statement}
use Rattle.figures.proofs.counting.count_records.Tie as tie

-- the records that are left, and what is counted so far
abbrev invariant-loop-at : tie.invariant-loop-at
invariant-loop-at bytes branches before at₀ records₀ calls₀ block₀ part₀ at records calls block part = Walking bytes before at records calls block part

abbrev decreases-loop-at : tie.decreases-loop-at
decreases-loop-at bytes branches before at₀ records₀ calls₀ block₀ part₀ at records calls block part = length bytes - at

pub count_records_spec : {M : Type 1} → statement M
count_records_spec =
    tie.close
    (tie.spec
    invariant-loop-at
    decreases-loop-at
    (λ c. let a = c.args in walking_first a.bytes.now a.before)
    (λ c κs. search rules)
    (λ c. let l = c.requires.0 in let h = c.loop-at-test.true in omega (arith, l.short, h))
    (λ c κs. search rules)
    (λ c. let l = c.requires.0 in let h = c.loop-at-test.true in omega (arith, l.short, h))
    (λ c κs. search rules)
    (λ c. let v = c.loop-at.invariant in let l = c.requires.0 in let w = c.requires.1.0 in omega (arith, v.records, v.inside, l.short, w.records, w.bytes))
    (λ c κs. search rules)
    (λ c. let v = c.loop-at.invariant in let l = c.requires.0 in let w = c.requires.1.0 in let e = c.calls_of-calls.ensures in let f = calls_few c.byte-kind.result in
    omega (arith, v.calls, v.inside, l.short, w.calls, w.records, w.bytes, e, f))
    (λ c κs. search rules)
    (λ c. let v = c.loop-at.invariant in let l = c.requires.0 in let w = c.requires.1.0 in let s = c.block_step-step in
    let e : s.result.adds ≡ (block_step c.loop-at.part c.byte-kind.result c.byte-label.result).adds = ap (λ (t : BlockStep). t.adds) s.ensures in
    let f = block_few c.loop-at.part c.byte-kind.result c.byte-label.result in
    omega (arith, v.block, v.inside, l.short, w.block, w.records, w.bytes, e, f))
    (λ c. search rules)
    (λ c. let s = forth c.loop-at.invariant c.requires.0 c.loop-at-test.true c.byte-n.ensures c.byte-kind.ensures c.byte-label.ensures in let l = c.requires.0 in omega (arith, s.fits, l.short))
    (λ c. let s = forth c.loop-at.invariant c.requires.0 c.loop-at-test.true c.byte-n.ensures c.byte-kind.ensures c.byte-label.ensures in let h = c.loop-at-test.true in omega (arith, s.fits, s.long, h))
    (λ c. walking-next c.loop-at.invariant c.requires.0 c.loop-at-test.true c.byte-n.ensures c.byte-kind.ensures c.byte-label.ensures c.calls_of-calls.ensures c.block_step-step.ensures)
    (λ c. let l = c.requires.0 in let w = c.requires.1.0 in omega (arith, l.short, w.bytes))
    (λ c. let w = c.requires.1.0 in let o = c.requires.1.1 in omega (arith, w.branches, w.records, w.bytes, o))
    (λ c. λ i n rs e. finish (c.loop-at.invariant.rest rs e) c.loop-at-test.false i n e))
