-- The line of the registers drawn on, piece by piece, and the text for an answer.
use Prim.Native.Nat.{ℕ, ◌+◌, ◌≤◌, ◌<◌}
use mathlib.Core.Path.{◌≡◌, refl, sym, ap, ◌∙◌}
use mathlib.Core.Bool.{cond}
use mathlib.Core.List.{List, [], ◌∷◌, ◌++◌}
use native.Mathlib.Numerals.{add-one}
use native.Mathlib.Omega.{arith}
use borrow.Author.Tests.{eq-eqb, ne_eqb}
use lib.Dec.{eqb}
use lib.ListN.{length, take, drop, get_or, drop_of_length-le}
use lib.Seq.{drop-cons}
use Rattle.text.specs.Text.{ascii, space, register, line}
use Rattle.words.specs.Bytes.{word_at}
use Rattle.lower_sheet.specs.Lowers.{answer_line, marked_names, or_nothing, drawn_line, answer_text}

-- one mark more, and none left
module _ (marks : List ℕ) (i : ℕ) where
  pub names-on : i < length marks
      → marked_names i (drop i marks) ≡ cond (eqb (get_or marks i 0) 0) [] (space (register i)) ++ marked_names (i + 1) (drop (i + 1) marks)
  unfolding marked_names
  names-on h =
      ap (marked_names i) (drop-cons marks i 0 h)
      ∙ ap (λ k. cond (eqb (get_or marks i 0) 0) [] (space (register i)) ++ marked_names k (drop k marks)) (sym (add-one i))

  pub names-end : length marks ≤ i → marked_names i (drop i marks) ≡ []
  unfolding marked_names
  names-end h = ap (marked_names i) (drop_of_length-le marks h)

-- the whole line, with no name and with some
nothing_said : (names : List ℕ) → length names ≡ 0 → (ascii "draws on" ++ names) ++ ascii " nothing\n" ≡ line (ascii "draws on" ++ or_nothing names)
unfolding ascii
nothing_said [] h = refl
nothing_said (b ∷ names) h = absurd (omega (arith, h))

names_said : (names : List ℕ) → (length names ≡ 0 → ⊥) → (ascii "draws on" ++ names) ++ 10 ∷ [] ≡ line (ascii "draws on" ++ or_nothing names)
unfolding ascii
names_said [] h = absurd (h refl)
names_said (b ∷ names) h = refl

module _ (marks : List ℕ) {from to : ℕ} (e : to ≡ from + length (marked_names 0 marks)) where
  pub with_nothing : to ≡ from → (ascii "draws on" ++ marked_names 0 marks) ++ ascii " nothing\n" ≡ drawn_line marks
  unfolding drawn_line
  with_nothing h = nothing_said (marked_names 0 marks) (omega (arith, e, h))

  pub with-names : (to ≡ from → ⊥) → (ascii "draws on" ++ marked_names 0 marks) ++ 10 ∷ [] ≡ drawn_line marks
  unfolding drawn_line
  with-names h = names_said (marked_names 0 marks) (λ z. h (omega (arith, e, z)))

-- by the answer's number
module _ (answer : List ℕ) {n : ℕ} (e : n ≡ word_at answer 0) where
  pub setup-wrong : n ≡ 8 → answer_line answer ≡ answer_text answer
  unfolding answer_text
  setup-wrong h = sym (simp (eq-eqb (word_at answer 0) 8 (sym e ∙ h)))

  pub setup-right : (n ≡ 8 → ⊥) → answer_line answer ++ drawn_line (take 66 (drop 194 answer)) ≡ answer_text answer
  unfolding answer_text
  setup-right h = sym (simp (ne_eqb (word_at answer 0) 8 (λ k. h (e ∙ k))))
