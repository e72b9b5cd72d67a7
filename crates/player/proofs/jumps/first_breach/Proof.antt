-- `player::jumps::first_breach` meets its contract. The invariant: the tables tell of the records before, and the first breach from here on is the listing's.
use borrow.Author.Rules.{rules}
use native.Mathlib.Omega.{arith}
use Prim.Native.Nat.{ℕ, ◌+◌, ◌-◌, ◌≤◌}
use mathlib.Core.Path.{◌≡◌, refl, sym, ap, ◌∙◌}
use lib.ListN.{length}
use Rattle.mir.proofs.Decoding.{ended}
use Rattle.records.specs.Record.{record_from}
use Rattle.player_machine.specs.Jumps.{bit}
use Rattle.player.specs.Positions.{fault, Sound, Table, AllCounted}
use Rattle.player.proofs.Walks.{bit_small}
use Rattle.player.proofs.Looks.{stands}
use Rattle.player.proofs.Rules.{counted_few, zeros, Ruled, ruled_start, ruled-on, ruled-stop, ruled-end}
use Rattle.player.proofs.jumps.first_breach.Statement.{statement}
use Rattle.player.proofs.jumps.first_breach.Tie as tie

abbrev invariant-loop-at : tie.invariant-loop-at
invariant-loop-at s all stood₀ returns returned₀ inside₀ at₀ index₀ stood returned inside at index =
    ((index ≤ at) × (returned ≤ at))
    × AllCounted s all returns
    × Sound s at
    × Table at stood
    × ((count : ℕ) → fault count s 0 ≡ 0 → Ruled count s at index all stood inside returns returned)

abbrev decreases-loop-at : tie.decreases-loop-at
decreases-loop-at s all stood₀ returns returned₀ inside₀ at₀ index₀ stood returned inside at index = length s - at

pub first_breach_spec : {M : Type 1} → statement M
first_breach_spec =
    tie.close
    (tie.spec
    invariant-loop-at
    decreases-loop-at
    (λ c. search rules)
    (λ c κs.
    let p = c.requires in
    (p.0, (p.1, (refl, λ l. let h = zeros 256 l in omega (arith, h)))))
    (λ c.
    let p = c.requires in
    ((omega arith, omega arith), c.count_labels-returns.ensures, p.1, (refl, λ l. let z = zeros 256 l in omega (arith, z)), λ count z. ruled_start count z c.count_labels-returns.ensures (λ l. let z = zeros 256 l in omega (arith, z))))
    (λ c. search rules) (λ c. search rules) (λ c. search rules) (λ c. search rules) (λ c. search rules)
    (λ c κs.
    let l = c.loop-at in
    (l.invariant.1.long, l.invariant.3.0))
    (λ c.
    let l = c.loop-at in
    λ count z.
    let k = l.invariant.4 count z in
    ruled-stop k (stands count k.sound c.loop-at-test.true refl) c.breaks_rule.ensures c.if-breaks_rule.true)
    (λ c. search rules)
    (λ c κs.
    let l = c.loop-at in
    (l.invariant.3.0, λ m. let h = l.invariant.3.1 m in omega (arith, h)))
    (λ c κs. search rules) (λ c κs. search rules)
    (λ c. let h = bit_small c.encodes_return.result in let e = c.one_if-returned.ensures in omega (arith, h, e))
    (λ c κs. search rules) (λ c κs. search rules) (λ c. search rules)
    (λ c.
    let a = c.args in
    let l = c.loop-at in
    let w = stands l.invariant.2.count l.invariant.2.none c.loop-at-test.true c.u16_at-n.ensures in
    let h = w.here.inside in
    omega (arith, h))
    (λ c. search rules)
    (λ c.
    let a = c.args in
    let l = c.loop-at in
    let w = stands l.invariant.2.count l.invariant.2.none c.loop-at-test.true c.u16_at-n.ensures in
    let h = w.here.on in
    omega (arith, h))
    (λ c.
    let a = c.args in
    let l = c.loop-at in
    let w = stands l.invariant.2.count l.invariant.2.none c.loop-at-test.true c.u16_at-n.ensures in
    let h = w.here in
    let g = h.on in
    let b = bit_small c.encodes_return.result in
    let e = c.one_if-returned.ensures in
    let d = c.count_label.ensures in (
      (omega (arith, g), omega (arith, g, b, e)),
      l.invariant.1,
      record { count = l.invariant.2.count; none = sym h.sound ∙ l.invariant.2.none },
      (d.long ∙ l.invariant.3.0, λ m. let i = l.invariant.3.1 m in let j = counted_few d m in omega (arith, g, i, j)),
      λ count z.
          let k = l.invariant.4 count z in
          ruled-on k (stands count k.sound c.loop-at-test.true c.u16_at-n.ensures) c.breaks_rule.ensures c.if-breaks_rule.false d (ap (◌+◌ l.returned) (c.one_if-returned.ensures ∙ ap bit c.encodes_return.ensures)) c.block_open-inside.ensures,
    ))
    (λ c.
    let a = c.args in
    let l = c.loop-at in
    λ count z. ruled-end (l.invariant.4 count z) (ended (record_from count) a.listing.now l.at (omega arith))))
