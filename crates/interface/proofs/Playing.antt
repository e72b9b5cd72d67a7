-- Playing over words and over bytes: the constants' words, and too many of them.
use Prim.Native.Nat.{ℕ, ◌/◌, ◌%◌, ◌<◌}
use mathlib.Core.Path.{◌≡◌, refl, sym, ap, ◌∙◌}
use mathlib.Core.Bool.{Bool, true, false, not, ◌||◌}
use mathlib.Core.List.{List, [], ◌∷◌}
use native.Mathlib.Omega.{arith}
use lib.ListN.{length}
use lib.Dec.{ltb, eqb}
use borrow.Author.Tests.{eq-eqb, lt-ltb}
use Rattle.player_machine.specs.Machine.{Store}
use Rattle.player_machine.specs.Answer.{refuse, answer}
use Rattle.player.specs.declared.PlayAnswer as player
use Rattle.player.specs.Values.{whole}
use Rattle.words.specs.Bytes.{bytes_of, words_of, stored}
use Rattle.words.proofs.Lengths.{length-bytes_of, length-words_of}
use Rattle.words.proofs.Stored.{stored_whole}
use Rattle.interface.specs.Calls.{given, play_call}

either : (b : Bool) (σ : Store)
    → record { number = 8; index = 0; played = 0; store = σ } ≡ refuse b 8 0 σ (record { number = 8; index = 0; played = 0; store = σ })
either true σ = refl
either false σ = refl

pub too_many : (listing constants : List ℕ) (start : ℕ) (σ : Store) → 256 < length constants / 8
    → record { number = 8; index = 0; played = 0; store = σ } ≡ answer listing (words_of constants) start σ
unfolding answer
too_many listing constants start σ h =
    simp (length-words_of constants, lt-ltb 256 (length constants / 8) h) (either (ltb 65536 (length listing)) σ)

module _ (listing constants store : List ℕ) (start : ℕ) (lent : List ℕ) (whole-answer : length lent ≡ 24) where
  -- constants or a store of another length
  pub wrong : {n : ℕ} {r : List ℕ} → not (eqb (length constants % 8) 0) || not (eqb (length store) 12816) ≡ true → n ≡ 8
      → r ≡ stored lent 0 (bytes_of (8 ∷ 0 ∷ 0 ∷ []))
      → record { number = n; store = store; answer = r } ≡ play_call listing constants store start lent
  unfolding play_call
  wrong h f e =
      let er = e ∙ stored_whole lent (bytes_of (8 ∷ 0 ∷ 0 ∷ [])) (length-bytes_of (8 ∷ 0 ∷ 0 ∷ []) ∙ sym whole-answer) in
      simp (eq-eqb _ _ whole-answer, h) (λ i. record { number = f i; store = store; answer = er i })

  -- the words that are loaded are the store's
  store_words : (l : List ℕ) {σ : Store} → length store ≡ 12816 → length l ≡ 1602 → σ ≡ stored l 0 (words_of store) → σ ≡ words_of store
  store_words l h k e = e ∙ stored_whole l (words_of store) (length-words_of store ∙ ap (λ n. n / 8) h ∙ sym k)

  pub played : (l : List ℕ) (a : player.PlayAnswer) {σ τ : Store} {s r : List ℕ} → length constants % 8 ≡ 0 → length store ≡ 12816
      → length l ≡ 1602
      → σ ≡ stored l 0 (words_of store) → whole a τ ≡ answer listing (words_of constants) start σ → length τ ≡ 1602
      → s ≡ stored store 0 (bytes_of τ) → r ≡ stored lent 0 (bytes_of (a.number ∷ a.index ∷ a.played ∷ []))
      → record { number = a.number; store = s; answer = r } ≡ play_call listing constants store start lent
  unfolding play_call
  played l a {σ} {τ} {s} {r} whole-constants h k e p m f g =
      let numbers = a.number ∷ a.index ∷ a.played ∷ [] in
      let es : s ≡ bytes_of τ = f ∙ stored_whole store (bytes_of τ) (omega (arith, length-bytes_of τ)) in
      let er : r ≡ bytes_of numbers = g ∙ stored_whole lent (bytes_of numbers) (length-bytes_of numbers ∙ sym whole-answer) in
      simp (eq-eqb _ _ whole-answer, eq-eqb _ _ whole-constants, eq-eqb _ _ h)
      (ap (λ x. record { number = a.number; store = x; answer = r }) es
      ∙ ap (λ x. record { number = a.number; store = bytes_of τ; answer = x }) er
      ∙ ap given (p ∙ ap (answer listing (words_of constants) start) (store_words l h k e)))
