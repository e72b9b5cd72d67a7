-- `player::passes::skip` meets its contract. The invariant: what is left to pass over from here ends where it is to end.
use borrow.Author.Rules.{rules}
use native.Mathlib.Omega.{arith}
use Prim.Native.Nat.{ℕ, suc, ◌-◌}
use mathlib.Core.Path.{◌≡◌, refl, sym, ap, ◌∙◌}
use lib.ListN.{length, drop}
use Rattle.mir.proofs.Decoding.{ended}
use Rattle.records.specs.Record.{record_from}
use Rattle.player.specs.Positions.{left, fault, Sound}
use Rattle.player.proofs.Walks.{skip-on, skip-none}
use Rattle.player.proofs.Looks.{stands}
use Rattle.player.proofs.passes.skip.Statement.{statement}
use Rattle.player.proofs.passes.skip.Tie as tie

abbrev invariant-loop-at : tie.invariant-loop-at
invariant-loop-at s from k at₀ n₀ at n =
    Sound s at
    × ((count : ℕ) → fault count s from ≡ 0 → (drop n (left count s at) ≡ drop k (left count s from)) × (fault count s at ≡ 0))

abbrev decreases-loop-at : tie.decreases-loop-at
decreases-loop-at s from k at₀ n₀ at n = length s - at

pub skip_spec : {M : Type 1} → statement M
skip_spec =
    tie.close
    (tie.spec
    invariant-loop-at
    decreases-loop-at
    (λ c. (c.requires, λ count z. (refl, z)))
    (λ c.
    let a = c.args in
    let l = c.loop-at in
    record {
      same = λ count z. ap (λ m. drop m (left count a.listing.now l.at)) (sym c.if-n-eq0.true) ∙ (l.invariant.1 count z).0;
      sound = λ count z. (l.invariant.1 count z).1;
    })
    (λ c. search rules) (λ c. search rules) (λ c. search rules) (λ c κs. search rules) (λ c. search rules)
    (λ c.
    let l = c.loop-at in
    let h = (stands l.invariant.0.count l.invariant.0.none c.loop-at-test.true c.u16_at-length.ensures).here.inside in
    omega (arith, h))
    (λ c. search rules)
    (λ c.
    let l = c.loop-at in
    let h = (stands l.invariant.0.count l.invariant.0.none c.loop-at-test.true c.u16_at-length.ensures).here.on in
    omega (arith, h))
    (λ c.
    let a = c.args in
    let l = c.loop-at in
    let h = (stands l.invariant.0.count l.invariant.0.none c.loop-at-test.true c.u16_at-length.ensures).here in
    let e : l.n ≡ suc (l.n - 1) = omega arith in (
      record { count = l.invariant.0.count; none = sym h.sound ∙ l.invariant.0.none },
      λ count z.
          let i = l.invariant.1 count z in
          let g = (stands count i.1 c.loop-at-test.true c.u16_at-length.ensures).here in
          (sym (skip-on (l.n - 1) g) ∙ ap (λ m. drop m (left count a.listing.now l.at)) (sym e) ∙ i.0, sym g.sound ∙ i.1),
    ))
    (λ c.
    let a = c.args in
    let l = c.loop-at in
    record {
      same = λ count z. skip-none l.n (ended (record_from count) a.listing.now l.at (omega arith)) ∙ (l.invariant.1 count z).0;
      sound = λ count z. (l.invariant.1 count z).1;
    }))
