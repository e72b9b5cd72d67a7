-- What the call gives, by its tests.
use Prim.Native.Nat.{ℕ, ◌/◌, ◌%◌, ◌<◌}
use mathlib.Core.Path.{◌≡◌, refl, sym, ap, ◌∙◌}
use mathlib.Core.Bool.{Bool, true, false, not, ◌||◌}
use mathlib.Core.List.{List}
use lib.ListN.{length, get_elem?}
use lib.Dec.{ltb, eqb}
use borrow.Author.Tests.{eq-eqb, lt-ltb}
use Rattle.words.specs.Bytes.{bytes_of, words_of, stored}
use Rattle.words.proofs.Lengths.{length-bytes_of, length-words_of}
use Rattle.words.proofs.Stored.{stored_whole}
use Rattle.player_machine.specs.Machine.{Store}
use Rattle.records.specs.Record.{records}
use Rattle.player_machine.specs.Refusal.{Refusal, refuse_by, refusal}
use Rattle.player_machine.specs.Look.{look_at, look_by, look}
use Rattle.look.specs.declared.LookAnswer.{LookAnswer}
use Rattle.look.specs.Numbers.{told}
use Rattle.look.specs.Call.{numbers, given, wrong_setup, look_call}

-- over 256 constants are refused by 8, whichever test is first
either : (b : Bool) → refuse_by b 8 0 (record { number = 8; index = 0 }) ≡ record { number = 8; index = 0 }
either true = refl
either false = refl

pub too_many : (listing constants : List ℕ) (σ : Store) (i : ℕ) {r : LookAnswer} → 256 < length constants / 8 → r ≡ wrong_setup
    → r ≡ told (look listing (words_of constants) σ i)
unfolding look refusal
too_many listing constants σ i h e =
    let ws = words_of constants in
    let rs = (records (length ws) listing).items in
    let many : refusal listing (length ws) i (length σ) ≡ record { number = 8; index = 0 } =
    simp (length-words_of constants, lt-ltb 256 (length constants / 8) h) (either (ltb 65536 (length listing))) in
    e ∙ sym (ap (λ (r : Refusal). told (look_by r (look_at ws rs i σ (get_elem? rs i)))) many)

module _ (listing constants store : List ℕ) (i : ℕ) (lent : List ℕ) (whole-answer : length lent ≡ 64) where
  -- eight numbers fill the answer
  written : {n : ℕ} {r : List ℕ} {a b : LookAnswer} → a ≡ b → (n ≡ a.number) × (r ≡ stored lent 0 (bytes_of (numbers a)))
      → record { number = n; answer = r } ≡ given b
  written {n} {r} {a} e t =
      let h = length-bytes_of (numbers a) in
      (λ k. record { number = t.0 k; answer = (t.1 ∙ stored_whole lent (bytes_of (numbers a)) (h ∙ sym whole-answer)) k }) ∙ ap given e

  pub wrong : {n : ℕ} {r : List ℕ} {a : LookAnswer} → not (eqb (length constants % 8) 0) || not (eqb (length store) 12816) ≡ true
      → a ≡ wrong_setup → (n ≡ a.number) × (r ≡ stored lent 0 (bytes_of (numbers a)))
      → record { number = n; answer = r } ≡ look_call listing constants store i lent
  unfolding look_call
  wrong h e t = simp (eq-eqb _ _ whole-answer, h) (written e t)

  -- the words that are loaded are the store's
  store_words : (l : List ℕ) {σ : Store} → length store ≡ 12816 → length l ≡ 1602 → σ ≡ stored l 0 (words_of store) → σ ≡ words_of store
  store_words l h k e = e ∙ stored_whole l (words_of store) (length-words_of store ∙ ap (λ n. n / 8) h ∙ sym k)

  pub looked : (l : List ℕ) {n : ℕ} {σ : Store} {r : List ℕ} {a : LookAnswer} → length constants % 8 ≡ 0 → length store ≡ 12816
      → length l ≡ 1602 → σ ≡ stored l 0 (words_of store) → a ≡ told (look listing (words_of constants) σ i)
      → (n ≡ a.number) × (r ≡ stored lent 0 (bytes_of (numbers a)))
      → record { number = n; answer = r } ≡ look_call listing constants store i lent
  unfolding look_call
  looked l whole-constants h k e p t =
      simp (eq-eqb _ _ whole-answer, eq-eqb _ _ whole-constants, eq-eqb _ _ h)
      (written (p ∙ ap (λ σ. told (look listing (words_of constants) σ i)) (store_words l h k e)) t)
