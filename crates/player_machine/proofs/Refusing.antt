-- What refuses a play: `answer` by it, and what is known where nothing does.
use Prim.Native.Nat.{ℕ, suc, ◌≤◌}
use native.Mathlib.Omega.{arith}
use mathlib.Core.Path.{◌≡◌, refl, sym, ap, ◌∙◌}
use mathlib.Core.Bool.{Bool, true, false, not, true≢false}
use mathlib.Core.List.{List, [], ◌∷◌}
use lib.ListN.{length, drop}
use lib.Dec.{ltb, eqb}
use borrow.Author.Tests.{eq-eqb, eqb-true, ltb-false, not-false, not-true}
use Rattle.mir.specs.declared.records.Record.{Record}
use Rattle.records.specs.Record.{records}
use Rattle.player_machine.specs.Machine.{Store, End, block, play, going}
use Rattle.player_machine.specs.Jumps.{breaks, breach_from, breach}
use Rattle.player_machine.specs.Answer.{Answer, refuse, accept, answer}
use Rattle.player_machine.specs.Refusal.{Refusal, refuse_by, refusal, answer_by, Refused}

-- one test: it refuses by a number that is not 0
record Told (σ : Store) (e : End) (r : Refusal) (a : Answer) : Type 0 where
  pub same : a ≡ answer_by r σ e

module _ {σ : Store} {e : End} where
  by-test : (b : Bool) (number index : ℕ) {r : Refusal} {a : Answer} → (b ≡ true → eqb number 0 ≡ false) → Told σ e r a
      → Told σ e (refuse_by b number index r) (refuse b number index σ a)
  by-test true number index f h = record { same = let g = f refl in simp g }
  by-test false number index f h = h

pub refused : Refused refusal
unfolding answer refusal
refused listing constants start σ =
    let d = records (length constants) listing in
    let rs = d.items in
    let e = play constants (block rs) going (drop start rs) σ in
    let played : Told σ e (record { number = 0; index = length rs }) (accept (length rs) e) = record { same = refl } in
    (by-test (ltb 65536 (length listing)) 8 0 (λ t. refl)
    (by-test (ltb 256 (length constants)) 8 0 (λ t. refl)
    (by-test (not (eqb (length σ) 1602)) 8 0 (λ t. refl)
    (by-test (not (eqb d.fault 0)) d.fault (length rs) (λ t. not-true _ t)
    (by-test (ltb (length rs) start) 9 start (λ t. refl)
    (by-test (ltb (breach rs) (length rs)) 9 (breach rs) (λ t. refl) played)))))).same

-- the first breach is no later than the count
breach_by : (before : List Record) (r : Record) (rs : List Record) (b : Bool) → breaks before r rs ≡ b
    → breach_from (r ∷ before) rs ≤ length rs → breach_from before (r ∷ rs) ≤ suc (length rs)
unfolding breach_from
breach_by before r rs true t h = simp t (omega arith)
breach_by before r rs false t h = simp t (omega (arith, h))

breach-from : (before rs : List Record) → breach_from before rs ≤ length rs
unfolding breach_from
breach-from before [] = omega arith
breach-from before (r ∷ rs) = breach_by before r rs (breaks before r rs) refl (breach-from (r ∷ before) rs)

breach_most : (rs : List Record) → breach rs ≤ length rs
unfolding breach
breach_most rs = breach-from [] rs

-- where nothing refuses
pub record Accepted (listing : List ℕ) (constants start words : ℕ) : Type 0 where
  pub short : length listing ≤ 65536
  pub few : constants ≤ 256
  pub long : words ≡ 1602
  pub sound : (records constants listing).fault ≡ 0
  pub started : start ≤ length (records constants listing).items
  pub kept : breach (records constants listing).items ≡ length (records constants listing).items
  pub index : (refusal listing constants start words).index ≡ length (records constants listing).items

-- a test that did not refuse, and what refuses behind it
record Past (b : Bool) (r s : Refusal) : Type 0 where
  pub off : b ≡ false
  pub same : s ≡ r
  pub none : r.number ≡ 0

past : (b : Bool) (number index : ℕ) {r : Refusal} → (b ≡ true → number ≡ 0 → ⊥) → (refuse_by b number index r).number ≡ 0
    → Past b r (refuse_by b number index r)
past true number index f h = absurd (f refl h)
past false number index f h = record { off = refl; same = refl; none = h }

no_nine : (n : ℕ) → suc n ≡ 0 → ⊥
no_nine n e = omega (arith, e)

pub accepted : (listing : List ℕ) (constants start words : ℕ) → (refusal listing constants start words).number ≡ 0
    → Accepted listing constants start words
unfolding refusal
accepted listing constants start words e =
    let d = records constants listing in
    let rs = d.items in
    let a = past (ltb 65536 (length listing)) 8 0 (λ t z. no_nine 7 z) e in
    let b = past (ltb 256 constants) 8 0 (λ t z. no_nine 7 z) a.none in
    let c = past (not (eqb words 1602)) 8 0 (λ t z. no_nine 7 z) b.none in
    let f = past (not (eqb d.fault 0)) d.fault (length rs) (λ t z. true≢false (sym (eq-eqb _ _ z) ∙ not-true _ t)) c.none in
    let g = past (ltb (length rs) start) 9 start (λ t z. no_nine 8 z) f.none in
    let h = past (ltb (breach rs) (length rs)) 9 (breach rs) (λ t z. no_nine 8 z) g.none in
    let most = breach_most rs in
    let least = ltb-false (breach rs) (length rs) h.off in
    record {
      short = ltb-false 65536 (length listing) a.off;
      few = ltb-false 256 constants b.off;
      long = eqb-true words 1602 (not-false _ c.off);
      sound = eqb-true d.fault 0 (not-false _ f.off);
      started = ltb-false (length rs) start g.off;
      kept = omega (arith, most, least);
      index = ap (λ (r : Refusal). r.index) (a.same ∙ b.same ∙ c.same ∙ f.same ∙ g.same ∙ h.same);
    }
