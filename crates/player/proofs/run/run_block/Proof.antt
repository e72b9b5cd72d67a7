-- `player::run::run_block` meets its contract. The invariant: the block from here, on this store, is the whole block on the first store.
use borrow.Author.Rules.{rules}
use native.Mathlib.Omega.{arith}
use Prim.Native.Nat.{◌+◌, ◌-◌, ◌≤◌}
use mathlib.Core.Path.{◌≡◌, refl, sym, ap, ◌∙◌}
use lib.ListN.{length}
use Rattle.player_machine.specs.Machine.{execs}
use Rattle.player.specs.Positions.{block_at, fault}
use Rattle.player.proofs.Steps.{works_on, works_done, works_jump, execs_none, execs_on}
use Rattle.player.proofs.Looks.{Tried, readable, did, jumps, kept}
use Rattle.mir.proofs.Decoding.{ended}
use Rattle.records.specs.Record.{record_from}
use Rattle.player.proofs.run.run_block.Statement.{statement}
use Rattle.player.proofs.run.run_block.Tie as tie

abbrev invariant-loop-at : tie.invariant-loop-at
invariant-loop-at s constants body store₀ at₀ n₀ store at n =
    ((n ≤ 65600) × (body + n ≤ at + 1))
    × (length store ≡ length store₀)
    × (execs constants (block_at constants s at) store ≡ execs constants (block_at constants s body) store₀)
    × (n + length (block_at constants s at) ≡ 1 + length (block_at constants s body))
    × (fault (length constants) s at ≡ 0)

abbrev decreases-loop-at : tie.decreases-loop-at
decreases-loop-at s constants body store₀ at₀ n₀ store at n = length s - at

pub run_block_spec : {M : Type 1} → statement M
run_block_spec =
    tie.close
    (tie.spec
    invariant-loop-at
    decreases-loop-at
    (λ c. ((omega arith, omega arith), refl, refl, refl, search rules))
    (λ c. search rules) (λ c. search rules) (λ c. search rules) (λ c κs. search rules) (λ c. search rules)
    (λ c.
    let a = c.args in
    let l = c.loop-at in
    let x = c.exec-worked.ensures in
    let t : Tried a.constants.now a.listing.now l.at _ l.store _ = record { went = x.0; after = x.1 } in
    let f = readable (length a.constants.now) a.listing.now l.at l.invariant.4 (omega arith) in
    let e = works_jump (jumps a.constants.now a.listing.now l.at f t c.if-not-worked.true) in
    let g = ap length e in
    let i = l.invariant.3 in
    record {
      same = kept a.constants.now a.listing.now l.at f t c.if-not-worked.true ∙ sym (execs_none a.constants.now l.store e) ∙ l.invariant.2;
      count = omega (arith, g, i);
      small = omega arith;
    })
    (λ c κs. search rules) (λ c. search rules)
    (λ c.
    let a = c.args in
    let l = c.loop-at in
    let x = c.exec-worked.ensures in
    let t : Tried a.constants.now a.listing.now l.at _ l.store _ = record { went = x.0; after = x.1 } in
    let f = readable (length a.constants.now) a.listing.now l.at l.invariant.4 (omega arith) in
    let d = did a.constants.now a.listing.now l.at f t c.u16_at-k.ensures c.if-not-worked.false in
    let h = d.here.inside in
    omega (arith, h))
    (λ c. search rules)
    (λ c.
    let a = c.args in
    let l = c.loop-at in
    let x = c.exec-worked.ensures in
    let t : Tried a.constants.now a.listing.now l.at _ l.store _ = record { went = x.0; after = x.1 } in
    let f = readable (length a.constants.now) a.listing.now l.at l.invariant.4 (omega arith) in
    let d = did a.constants.now a.listing.now l.at f t c.u16_at-k.ensures c.if-not-worked.false in
    let h = d.here.on in
    omega (arith, h))
    (λ c.
    let a = c.args in
    let l = c.loop-at in
    let x = c.exec-worked.ensures in
    let t : Tried a.constants.now a.listing.now l.at _ l.store _ = record { went = x.0; after = x.1 } in
    let f = readable (length a.constants.now) a.listing.now l.at l.invariant.4 (omega arith) in
    let d = did a.constants.now a.listing.now l.at f t c.u16_at-k.ensures c.if-not-worked.false in
    let g = d.here.on in
    let w = d.here.inside in
    let e = works_on d.here in
    let k = ap length e in
    let i = l.invariant.3 in
    ((omega (arith, g, w), omega (arith, g)), search rules, ap (execs a.constants.now _) d.same ∙ sym (execs_on a.constants.now l.store e) ∙ l.invariant.2, omega (arith, k, i), sym d.here.sound ∙ l.invariant.4))
    (λ c. search rules)
    (λ c.
    let a = c.args in
    let l = c.loop-at in
    let e = works_done (ended (record_from (length a.constants.now)) a.listing.now l.at (omega arith)) in
    let g = ap length e in
    let i = l.invariant.3 in
    record { same = sym (execs_none a.constants.now l.store e) ∙ l.invariant.2; count = omega (arith, g, i); small = omega arith }))
