-- `player::passes::find` meets its contract. The invariant: what is sought from here is what is sought from the start.
use borrow.Author.Rules.{rules}
use native.Mathlib.Omega.{arith}
use Prim.Native.Nat.{ℕ, ◌-◌, ◌≤◌}
use mathlib.Core.Path.{◌≡◌, refl, sym, ◌∙◌}
use lib.ListN.{length}
use Rattle.mir.proofs.Decoding.{ended}
use Rattle.records.specs.Record.{record_from}
use Rattle.player_machine.specs.Machine.{seek}
use Rattle.player.specs.Positions.{left, fault, Sound}
use Rattle.player.proofs.Steps.{seek_on, seek_here, seek_none}
use Rattle.player.proofs.Looks.{stands}
use Rattle.player.proofs.Encoding.{such-label}
use Rattle.player.proofs.passes.find.Statement.{statement}
use Rattle.player.proofs.passes.find.Tie as tie

abbrev invariant-loop-i : tie.invariant-loop-i
invariant-loop-i s at label i₀ i =
    (at ≤ i)
    × Sound s i
    × ((count : ℕ) → fault count s at ≡ 0 → (seek label (left count s i) ≡ seek label (left count s at)) × (fault count s i ≡ 0))

abbrev decreases-loop-i : tie.decreases-loop-i
decreases-loop-i s at label i₀ i = length s - i

pub find_spec : {M : Type 1} → statement M
find_spec =
    tie.close
    (tie.spec
    invariant-loop-i
    decreases-loop-i
    (λ c. (omega arith, c.requires, λ count z. (refl, z)))
    (λ c. search rules) (λ c. search rules) (λ c. search rules) (λ c κs. search rules)
    (λ c.
    let l = c.loop-i in
    record {
      same = λ count z.
          let i = l.invariant.2 count z in
          let w = stands count i.1 c.loop-i-test.true refl in
          seek_here _ w.here (sym (such-label _ w.rec w.encodes _) ∙ sym c.encodes_label.ensures ∙ c.if-encodes_label.true) ∙ i.0;
      sound = λ count z. (l.invariant.2 count z).1;
      on = l.invariant.0;
    })
    (λ c κs. search rules) (λ c. search rules)
    (λ c.
    let l = c.loop-i in
    let h = (stands l.invariant.1.count l.invariant.1.none c.loop-i-test.true c.u16_at-n.ensures).here.inside in
    omega (arith, h))
    (λ c.
    let l = c.loop-i in
    let h = (stands l.invariant.1.count l.invariant.1.none c.loop-i-test.true c.u16_at-n.ensures).here.on in
    omega (arith, h))
    (λ c.
    let l = c.loop-i in
    let h = (stands l.invariant.1.count l.invariant.1.none c.loop-i-test.true c.u16_at-n.ensures).here in
    let g = h.on in (
      omega (arith, g),
      record { count = l.invariant.1.count; none = sym h.sound ∙ l.invariant.1.none },
      λ count z.
          let i = l.invariant.2 count z in
          let w = stands count i.1 c.loop-i-test.true c.u16_at-n.ensures in
          (seek_on _ w.here (sym (such-label _ w.rec w.encodes _) ∙ sym c.encodes_label.ensures ∙ c.if-encodes_label.false) ∙ i.0, sym w.here.sound ∙ i.1),
    ))
    (λ c.
    let a = c.args in
    let l = c.loop-i in
    record {
      same = λ count z.
          let d = ended (record_from count) a.listing.now l.i (omega arith) in
          seek_none _ d d ∙ (l.invariant.2 count z).0;
      sound = λ count z. (l.invariant.2 count z).1;
      on = l.invariant.0;
    }))
