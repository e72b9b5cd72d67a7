-- A look by what the passes find: refused, at the end, or at a record.
use Prim.Native.Nat.{ℕ, ◌-◌, ◌≤◌, ◌<◌}
use native.Mathlib.Omega.{arith}
use mathlib.Core.Path.{◌≡◌, refl, sym, ap, ◌∙◌}
use mathlib.Core.Bool.{Bool, true, false}
use mathlib.Core.List.{List}
use lib.ListN.{length, take, drop, length-drop}
use lib.Dec.{ltb}
use borrow.Author.Tests.{ltb-true, ltb-false}
use Rattle.mir.specs.declared.records.Record.{Record}
use Rattle.mir.proofs.Parts.{part}
use Rattle.mir.proofs.Decoding.{ended}
use Rattle.records.specs.Record.{records, record_from}
use Rattle.player_machine.specs.Machine.{Store}
use Rattle.player_machine.specs.Refusal.{Refusal, refusal}
use Rattle.player_machine.specs.Step.{written, step}
use Rattle.player_machine.specs.Look.{shown, look_at, look}
use Rattle.player_machine.proofs.Stepping.{head?, at_head}
use Rattle.player_machine.proofs.Refusing.{Accepted}
use Rattle.player_machine.proofs.Looking.{looks, looks-not, at_none}
use Rattle.player.specs.declared.Verdict.{Verdict}
use Rattle.player.specs.Positions.{Judged}
use Rattle.player.proofs.Looks.{readable}
use Rattle.player.proofs.Answering.{judged}
use Rattle.look.specs.declared.LookAnswer.{LookAnswer}
use Rattle.look.specs.declared.show.Shown.{Shown}
use Rattle.look.specs.Numbers.{told}
use Rattle.look.specs.Standing.{Standing, Stood, FollowsAt, ShownOf, plain}
use Rattle.look.proofs.Following.{at-index}

abbrev unshown : ℕ → ℕ → ℕ → LookAnswer
unshown number index follows =
    record { number = number; index = index; follows = follows; count = 0; index1 = 0; bits1 = 0; index2 = 0; bits2 = 0 }

module _ (listing constants : List ℕ) (σ : Store) (i : ℕ) {v : Verdict} (j : Judged listing (length constants) i (length σ) v) where
  abbrev rs : List Record
  rs = (records (length constants) listing).items

  none-refuses : v.number ≡ 0 → (refusal listing (length constants) i (length σ)).number ≡ 0
  none-refuses z = ap (λ (r : Refusal). r.number) (sym j.same) ∙ z

  pub turned : {r : LookAnswer} → (v.number ≡ 0 → ⊥) → r ≡ unshown v.number v.index 0 → r ≡ told (look listing constants σ i)
  turned n h =
      h
      ∙ ap (λ (r : Refusal). unshown r.number r.index 0) j.same
      ∙ sym (ap told (looks-not listing constants σ i (λ z. n (ap (λ (r : Refusal). r.number) j.same ∙ z))))

  module _ (z : v.number ≡ 0) where
    fine : Accepted listing (length constants) i (length σ)
    fine = judged j z

    all : v.index ≡ length rs
    all = ap (λ (r : Refusal). r.index) j.same ∙ fine.index

    pub at-the-end : {r : LookAnswer} → i ≡ v.index → r ≡ unshown 0 v.index v.index → r ≡ told (look listing constants σ i)
    at-the-end e h =
        let k = at_none rs i (omega (arith, e, all)) in
        h
        ∙ ap (λ n. unshown 0 n n) all
        ∙ sym (ap told (looks listing constants σ i (none-refuses z) ∙ ap (look_at constants rs i σ) k))

    -- a record stands there
    within : (i ≡ v.index → ⊥) → v.from < length listing
    within n = by (ltb v.from (length listing)) refl
      where
        by : (b : Bool) → ltb v.from (length listing) ≡ b → v.from < length listing
        by true e = ltb-true v.from (length listing) e
        by false e =
            let d = ended (record_from (length constants)) listing v.from (ltb-false v.from (length listing) e) in
            let g = ap length (sym ((j.from z).same (length constants) fine.sound) ∙ d.same) in
            let k = length-drop i rs in
            let m = fine.started in
            absurd (n (omega (arith, g, k, m, all)))

    stands-there : (i ≡ v.index → ⊥) → Standing (length constants) listing v.from i v.index
    stands-there n =
        record {
          sound = fine.sound;
          here = (j.from z).sound (length constants) fine.sound;
          same = (j.from z).same (length constants) fine.sound;
          whole = all;
          inside = within n;
        }

    pub standing : (i ≡ v.index → ⊥) → Stood listing v.from i v.index
    standing n = record { count = length constants; stands = stands-there n }

    pub inside : (i ≡ v.index → ⊥) → v.from ≤ length listing
    inside n = let h = within n in omega (arith, h)

    pub store_long : length σ ≡ 1602
    store_long = fine.long

    pub shown-there : {f : ℕ} {w : Shown} → (i ≡ v.index → ⊥) → FollowsAt listing σ v.from i v.index f
        → ShownOf constants (take (length listing - v.from) (drop v.from listing)) σ w
        → record { number = 0; index = v.index; follows = f; count = w.count; index1 = w.index1; bits1 = w.bits1; index2 = w.index2; bits2 = w.bits2 }
        ≡ told (look listing constants σ i)
    unfolding step
    shown-there {f} {w} n g h =
        let p = stands-there n in
        let x = readable (length constants) listing v.from p.here p.inside in
        let e = at_head rs i ∙ ap head? (at-index p x.rec x.is) in
        let a = g (length constants) p x.rec x.is in
        let b = h x.rec (ap (record_from (length constants)) (part listing v.from) ∙ x.is) in
        ap (answer-of v.index f) b
        ∙ (λ k. answer-of (all k) (a k) (plain (shown (written constants σ x.rec))))
        ∙ sym (ap told (looks listing constants σ i (none-refuses z) ∙ ap (look_at constants rs i σ) e))
      where
        answer-of : ℕ → ℕ → Shown → LookAnswer
        answer-of n f w =
            record { number = 0; index = n; follows = f; count = w.count; index1 = w.index1; bits1 = w.bits1; index2 = w.index2; bits2 = w.bits2 }
