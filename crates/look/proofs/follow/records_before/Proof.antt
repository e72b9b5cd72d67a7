-- `look::follow::records_before` meets its contract. The invariant: the records passed and those before the Label from here are all.
use borrow.Author.Rules.{rules}
use native.Mathlib.Omega.{arith}
use Prim.Native.Nat.{ℕ, ◌+◌, ◌-◌, ◌≤◌}
use mathlib.Core.Path.{◌≡◌, refl, sym, ◌∙◌}
use lib.ListN.{length}
use Rattle.mir.proofs.Decoding.{ended}
use Rattle.records.specs.Record.{record_from}
use Rattle.player_machine.specs.Step.{before}
use Rattle.player.specs.Positions.{left, fault, Sound}
use Rattle.player.proofs.Looks.{stands}
use Rattle.player.proofs.Encoding.{such-label}
use Rattle.look.proofs.Following.{before_on, before_here, before-none}
use Rattle.look.proofs.follow.records_before.Statement.{statement}
use Rattle.look.proofs.follow.records_before.Tie as tie

abbrev invariant-loop-i : tie.invariant-loop-i
invariant-loop-i s at label i₀ n₀ i n =
    (n ≤ i)
    × Sound s i
    × ((count : ℕ) → fault count s at ≡ 0 → (n + before label (left count s i) ≡ before label (left count s at)) × (fault count s i ≡ 0))

abbrev decreases-loop-i : tie.decreases-loop-i
decreases-loop-i s at label i₀ n₀ i n = length s - i

pub records_before_spec : {M : Type 1} → statement M
records_before_spec =
    tie.close
    (tie.spec
    invariant-loop-i
    decreases-loop-i
    (λ c. (omega arith, c.requires, λ count z. (omega arith, z)))
    (λ c. search rules) (λ c. search rules) (λ c. search rules) (λ c κs. search rules)
    (λ c.
    let l = c.loop-i in
    record {
      same = λ count z.
          let i = l.invariant.2 count z in
          let w = stands count i.1 c.loop-i-test.true refl in
          let h = before_here _ w.here (sym (such-label _ w.rec w.encodes _) ∙ sym c.encodes_label.ensures ∙ c.if-encodes_label.true) in
          let g = i.0 in
          omega (arith, h, g);
    })
    (λ c κs. search rules) (λ c. search rules)
    (λ c.
    let l = c.loop-i in
    let h = (stands l.invariant.1.count l.invariant.1.none c.loop-i-test.true c.u16_at-k.ensures).here.inside in
    omega (arith, h))
    (λ c.
    let l = c.loop-i in
    let h = l.invariant.0 in
    omega (arith, h))
    (λ c.
    let l = c.loop-i in
    let h = (stands l.invariant.1.count l.invariant.1.none c.loop-i-test.true c.u16_at-k.ensures).here.on in
    omega (arith, h))
    (λ c.
    let l = c.loop-i in
    let h = (stands l.invariant.1.count l.invariant.1.none c.loop-i-test.true c.u16_at-k.ensures).here in
    let g = h.on in
    let k = l.invariant.0 in (
      omega (arith, g, k),
      record { count = l.invariant.1.count; none = sym h.sound ∙ l.invariant.1.none },
      λ count z.
          let i = l.invariant.2 count z in
          let w = stands count i.1 c.loop-i-test.true c.u16_at-k.ensures in
          let b = before_on _ w.here (sym (such-label _ w.rec w.encodes _) ∙ sym c.encodes_label.ensures ∙ c.if-encodes_label.false) in
          let a = i.0 in
          (omega (arith, a, b), sym w.here.sound ∙ i.1),
    ))
    (λ c.
    let a = c.args in
    let l = c.loop-i in
    record {
      same = λ count z.
          let d = before-none a.label (ended (record_from count) a.listing.now l.i (omega arith)) in
          let g = (l.invariant.2 count z).0 in
          omega (arith, d, g);
    }))
