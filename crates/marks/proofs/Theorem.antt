-- What the marks promise of every play from record 0.
use Prim.Native.Nat.{ℕ, zero, suc, ◌≤◌, ◌<◌}
use native.Mathlib.Omega.{arith}
use native.Mathlib.Decide.{dec_lt}
use mathlib.Core.Path.{◌≡◌, refl, sym, ap, ◌∙◌}
use mathlib.Core.Bool.{Bool, true, false, not, true≢false}
use mathlib.Core.List.{List}
use lib.ListN.{length, replicate, get_or}
use lib.Dec.{T, ltb, eqb}
use Rattle.records.specs.Record.{records}
use Rattle.player_machine.specs.Machine.{Store, at, block, going}
use Rattle.player_machine.specs.Jumps.{breach}
use Rattle.player_machine.specs.Answer.{Answer, refuse, answer}
use Rattle.player_machine.proofs.Agreeing.{Agree, weaken}
use Rattle.marks.specs.Marks.{Set, start, drawn_on, flags}
use Rattle.marks.specs.Claims.{listing_records, Unmarked, DrawnAlone}
use Rattle.marks.proofs.Playing.{Known, held, given, plays}

-- ---- answers

-- two answers that agree on some words of their stores
record Alike (D : ℕ → Type 0) (a b : Answer) : Type 0 where
  pub number : a.number ≡ b.number
  pub index : a.index ≡ b.index
  pub played : a.played ≡ b.played
  pub stores : Agree D a.store b.store

-- a refusal leaves the stores
refused : {D : ℕ → Type 0} {σ τ : Store} (q q' : Bool) (number index : ℕ) {a b : Answer} → q ≡ q' → Agree D σ τ → Alike D a b
    → Alike D (refuse q number index σ a) (refuse q' number index τ b)
refused true true number index e g h = record { number = refl; index = refl; played = refl; stores = g }
refused false false number index e g h = h
refused true false number index e g h = absurd (true≢false e)
refused false true number index e g h = absurd (true≢false (sym e))

-- for any words D among which the marked ones are
answers : (D : ℕ → Type 0) (listing constants : List ℕ) (σ τ : Store) → ((i : ℕ) → T (drawn_on (listing_records listing constants) i) → D i) → Agree D σ τ
    → Alike D (answer listing constants 0 σ) (answer listing constants 0 τ)
unfolding answer
answers D listing constants σ τ k g =
    let d = records (length constants) listing in
    let rs = d.items in
    let h = plays D constants (block rs) going rs start σ τ k (weaken (λ i. go i) g) in
    refused (ltb 65536 (length listing)) (ltb 65536 (length listing)) 8 0 refl g
    (refused (ltb 256 (length constants)) (ltb 256 (length constants)) 8 0 refl g
    (refused (not (eqb (length σ) 1602)) (not (eqb (length τ) 1602)) 8 0 (ap (λ (n : ℕ). not (eqb n 1602)) g.len) g
    (refused (not (eqb d.fault 0)) (not (eqb d.fault 0)) d.fault (length rs) refl g
    (refused (ltb (length rs) 0) (ltb (length rs) 0) 9 0 refl g
    (refused (ltb (breach rs) (length rs)) (ltb (breach rs) (length rs)) 9 (breach rs) refl g
    (record { number = refl; index = refl; played = h.played; stores = h.on }))))))
  where
    go : (i : ℕ) → Known D start.filled i → D i
    go i (held h) = absurd h
    go i (given d) = d

-- the marked words and the places
data Outside (A : Set) (i : ℕ) : Type 0 where
  mark : T (A i) → Outside A i
  place : 66 ≤ i → Outside A i

pub drawn-alone : DrawnAlone
drawn-alone listing constants σ τ a m =
    let h = answers (Outside A) listing constants σ τ (λ i. mark) (record { len = a.length; on = λ i. go i }) in
    record {
      equal = record { number = h.number; index = h.index; played = h.played; places = λ i p. h.stores.on i (place p) };
      within = λ i t. h.stores.on i (mark t);
    }
  where
    A : Set
    A = drawn_on (listing_records listing constants)

    go : (i : ℕ) → Outside A i → at σ i ≡ at τ i
    go i (mark t) = m i t
    go i (place p) = a.places i p

-- ---- no mark

-- the marks of a set are its first words
pub flag_at : (n : ℕ) (A : Set) (i : ℕ) → i < n → get_or (flags n A) i false ≡ A i
flag_at zero A i h = absurd (omega arith)
flag_at (suc n) A zero h = refl
flag_at (suc n) A (suc i) h = flag_at n (λ j. A (suc j)) i (omega arith)

none_set : (n i : ℕ) → get_or (replicate n false) i false ≡ false
none_set zero i = refl
none_set (suc n) zero = refl
none_set (suc n) (suc i) = none_set n i

pub unmarked : Unmarked
unmarked listing constants σ τ e a =
    (drawn-alone listing constants σ τ a (λ i t. go i t (dec_lt i 66))).equal
  where
    A : Set
    A = drawn_on (listing_records listing constants)

    go : (i : ℕ) → T (A i) → Dec (i < 66) → at σ i ≡ at τ i
    go i t (yes h) = absurd (rw (sym (flag_at 66 A i h) ∙ ap (λ (l : List Bool). get_or l i false) e ∙ none_set 66 i) at t)
    go i t (no h) = a.places i (omega arith)
