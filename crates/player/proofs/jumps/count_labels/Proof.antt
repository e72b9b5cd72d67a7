-- `player::jumps::count_labels` meets its contract. The invariant: what was counted, and what stands from here on, are the whole listing's.
use borrow.Author.Rules.{rules}
use native.Mathlib.Omega.{arith}
use Prim.Native.Nat.{ℕ, ◌+◌, ◌-◌, ◌≤◌}
use mathlib.Core.Path.{◌≡◌, refl, sym, ap, ◌∙◌}
use lib.ListN.{length}
use Rattle.mir.proofs.Decoding.{ended}
use Rattle.records.specs.Record.{record_from}
use Rattle.player_machine.specs.Jumps.{bit}
use Rattle.player.specs.Positions.{fault, Sound, Table}
use Rattle.player.proofs.Walks.{bit_small}
use Rattle.player.proofs.Looks.{stands}
use Rattle.player.proofs.Rules.{CountedTo, counted_few, counted_start, counted-on, counted-labels, counted-returns}
use Rattle.player.proofs.jumps.count_labels.Statement.{statement}
use Rattle.player.proofs.jumps.count_labels.Tie as tie

abbrev invariant-loop-at : tie.invariant-loop-at
invariant-loop-at s table₀ at₀ returns₀ table at returns =
    (returns ≤ at)
    × (length table ≡ length table₀)
    × Sound s at
    × Table at table
    × ((count : ℕ) → fault count s 0 ≡ 0 → CountedTo count s at table returns)

abbrev decreases-loop-at : tie.decreases-loop-at
decreases-loop-at s table₀ at₀ returns₀ table at returns = length s - at

pub count_labels_spec : {M : Type 1} → statement M
count_labels_spec =
    tie.close
    (tie.spec
    invariant-loop-at
    decreases-loop-at
    (λ c.
    let p = c.requires in
    (omega arith, refl, p.1.0, p.1.1, λ count z. counted_start count p.1.1.1 z))
    (λ c. search rules) (λ c. search rules) (λ c. search rules)
    (λ c κs.
    let l = c.loop-at in
    (l.invariant.3.0, λ m. let h = l.invariant.3.1 m in omega (arith, h)))
    (λ c κs. search rules) (λ c κs. search rules)
    (λ c. let h = bit_small c.encodes_return.result in let e = c.one_if-returns.ensures in omega (arith, h, e))
    (λ c κs. search rules) (λ c. search rules)
    (λ c.
    let a = c.args in
    let l = c.loop-at in
    let w = stands l.invariant.2.count l.invariant.2.none c.loop-at-test.true c.u16_at-n.ensures in
    let h = w.here.inside in
    omega (arith, h))
    (λ c.
    let a = c.args in
    let l = c.loop-at in
    let w = stands l.invariant.2.count l.invariant.2.none c.loop-at-test.true c.u16_at-n.ensures in
    let h = w.here.on in
    omega (arith, h))
    (λ c.
    let a = c.args in
    let l = c.loop-at in
    let w = stands l.invariant.2.count l.invariant.2.none c.loop-at-test.true c.u16_at-n.ensures in
    let h = w.here in
    let g = h.on in
    let b = bit_small c.encodes_return.result in
    let e = c.one_if-returns.ensures in
    let d = c.count_label.ensures in (
      omega (arith, g, b, e),
      d.long ∙ l.invariant.1,
      record { count = l.invariant.2.count; none = sym h.sound ∙ l.invariant.2.none },
      (d.long ∙ l.invariant.3.0, λ m. let i = l.invariant.3.1 m in let j = counted_few d m in omega (arith, g, i, j)),
      λ count z.
          let k = l.invariant.4 count z in
          counted-on (stands count k.sound c.loop-at-test.true c.u16_at-n.ensures) k d (ap (◌+◌ l.returns) (c.one_if-returns.ensures ∙ ap bit c.encodes_return.ensures)),
    ))
    (λ c. search rules)
    (λ c.
    let a = c.args in
    let l = c.loop-at in
    record {
      long = l.invariant.3.0;
      labels = λ count z m. counted-labels (ended (record_from count) a.listing.now l.at (omega arith)) (l.invariant.4 count z) m;
      returns = λ count z. counted-returns (ended (record_from count) a.listing.now l.at (omega arith)) (l.invariant.4 count z);
    }))
