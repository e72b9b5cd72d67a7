-- Laying out with constants as bytes, and what the call gives, by its tests.
use Prim.Native.Nat.{ℕ, ◌/◌, ◌%◌, ◌<◌}
use mathlib.Core.Path.{◌≡◌, refl, sym, ap, ◌∙◌}
use mathlib.Core.Bool.{Bool, true, false, not, cond}
use mathlib.Core.List.{List, [], ◌∷◌}
use native.Mathlib.Omega.{arith}
use borrow.Author.Tests.{lt-ltb, eq-eqb, ne_eqb}
use lib.Dec.{ltb, eqb}
use lib.ListN.{length}
use Rattle.player_machine.specs.Refusal.{Refusal, refuse_by, refusal}
use Rattle.words.specs.Bytes.{bytes_of, words_of, stored}
use Rattle.words.proofs.Lengths.{length-bytes_of, length-words_of}
use Rattle.words.proofs.Stored.{stored_whole}
use Rattle.pages.specs.declared.PagesAnswer.{PagesAnswer}
use Rattle.pages.specs.Pages.{page_count}
use Rattle.pages.specs.Printed.{Printed, refused, from_record0, rows_of, printed_part}
use Rattle.pages.specs.Values.{whole}
use Rattle.pages.specs.Call.{given, part_of, pages_call}
use Rattle.pages.proofs.Laying.{part_text, turned-away, all_pages}

-- too many constants are 8, whatever the listing's length
either : (b : Bool) → record { number = 8; index = 0 } ≡ refuse_by b 8 0 (record { number = 8; index = 0 })
either true = refl
either false = refl

many : (listing : List ℕ) (n start words : ℕ) → 256 < n → record { number = 8; index = 0 } ≡ refusal listing n start words
unfolding refusal
many listing n start words h = simp (lt-ltb 256 n h) (either (ltb 65536 (length listing)))

module _ (first most : ℕ) (listing constants out : List ℕ) where
  pub torn-words : {r : PagesAnswer} → (length constants % 8 ≡ 0 → ⊥) → r ≡ record { number = 8; index = 0; pages = 0 }
      → whole r out ≡ part_of first most listing constants out
  unfolding part_of
  torn-words h e = simp (ne_eqb _ _ h) (ap (λ r. whole r out) e)

  pub too_many : {r : PagesAnswer} → length constants % 8 ≡ 0 → 256 < length constants / 8 → r ≡ record { number = 8; index = 0; pages = 0 }
      → whole r out ≡ part_of first most listing constants out
  unfolding part_of
  too_many z h e =
      let ws = words_of constants in
      let l = length-words_of constants in
      let m = many listing (length ws) 0 1602 (omega (arith, l, h)) in
      simp (eq-eqb _ _ z)
      (ap (λ r. whole r out) e
      ∙ ap (λ (r : Refusal). refused r.number r.index out) m
      ∙ turned-away (from_record0 listing ws) (page_count (rows_of listing ws)) (part_text first most (rows_of listing ws)) out
      (λ k. let n = ap (λ (r : Refusal). r.number) m ∙ k in omega (arith, n)))

  pub whole_words : {x : Printed} {ws : List ℕ} → length constants % 8 ≡ 0 → ws ≡ words_of constants → x ≡ printed_part first most listing ws out
      → x ≡ part_of first most listing constants out
  unfolding part_of
  whole_words z w e = simp (eq-eqb _ _ z) (e ∙ ap (λ ws. printed_part first most listing ws out) w)

module _ (listing constants out lent : List ℕ) where
  pub called : (a : PagesAnswer) {out' r : List ℕ} → length lent ≡ 24 → whole a out' ≡ part_of 0 65536 listing constants out
      → r ≡ stored lent 0 (bytes_of (a.number ∷ a.index ∷ a.pages ∷ []))
      → record { number = a.number; pages = out'; answer = r } ≡ pages_call listing constants out lent
  unfolding pages_call part_of
  called a {out'} {r} h p e =
      let numbers = a.number ∷ a.index ∷ a.pages ∷ [] in
      let er : r ≡ bytes_of numbers = e ∙ stored_whole lent (bytes_of numbers) (length-bytes_of numbers ∙ sym h) in
      simp (eq-eqb _ _ h)
      (ap (λ x. record { number = a.number; pages = out'; answer = x }) er
      ∙ ap given
      (p ∙ ap (cond (not (eqb (length constants % 8) 0)) (refused 8 0 out)) (all_pages listing (words_of constants) out)))
