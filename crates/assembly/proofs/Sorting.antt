-- The bytes of a word by its sort.
use Prim.Native.Nat.{ℕ, suc, ◌+◌, ◌%◌, ◌≤◌, ◌<◌}
use mathlib.Core.Path.{◌≡◌, refl, sym, ap, ◌∙◌}
use mathlib.Core.Bool.{Bool, true, false, cond}
use mathlib.Core.List.{List, [], ◌∷◌}
use native.Mathlib.Omega.{arith}
use borrow.Author.Tests.{ne_eqb}
use lib.Dec.{lit≤}
use lib.ListN.{length}
use Rattle.mir.specs.Read.{Read, got, refused, and_then}
use Rattle.text.specs.declared.line.Line.{Line}
use Rattle.text.specs.Line.{add_all}
use Rattle.replay.specs.Same.{same}
use Rattle.assembly.specs.Assembled.{number_from, register_words, class_words, index_words, mode_words, bits_of, word_bytes, Sort, a_register, a_class, a_byte, a_mode, bits}
use Rattle.assembly.specs.Reading.{sort_of}

-- below a limit, where it is a number
abbrev pub Under : ℕ → Read ℕ → Type 0
Under m (got k) = k < m
Under m (refused n) = Unit {0}

either : (m : ℕ) (t : Bool) (a b : Read ℕ) → Under m a → Under m b → Under m (cond t a b)
either m true a b h k = h
either m false a b h k = k

pub number_under : (n m : ℕ) (ws : List (List ℕ)) (w : List ℕ) → n + length ws ≤ m → Under m (number_from n ws w)
unfolding number_from
number_under n m [] w h = tt
number_under n m (v ∷ vs) w h =
    either m (same v w) (got n) (number_from (suc n) vs w) (omega (arith, h)) (number_under (suc n) m vs w (omega (arith, h)))

module _ (line : Line) where
  pub one : (r : Read ℕ) → Under 256 r
      → and_then r (λ n. got (add_all line (n % 256 ∷ []))) ≡ and_then (and_then r (λ n. got (n ∷ []))) (λ b. got (add_all line b))
  one (got k) h = let e : k % 256 ≡ k = omega (arith, h) in ap (λ x. got (add_all line (x ∷ []))) e
  one (refused n) h = refl

  pub two : (r : Read ℕ) → Under 256 r
      → and_then r (λ n. got (add_all line (n % 256 ∷ 0 ∷ []))) ≡ and_then (and_then r (λ n. got (n ∷ 0 ∷ []))) (λ b. got (add_all line b))
  two (got k) h = let e : k % 256 ≡ k = omega (arith, h) in ap (λ x. got (add_all line (x ∷ 0 ∷ []))) e
  two (refused n) h = refl

abbrev Other : ℕ → Type 0
Other s = (s ≡ 114 → ⊥) × (s ≡ 99 → ⊥) × (s ≡ 105 → ⊥) × (s ≡ 110 → ⊥) × (s ≡ 109 → ⊥)

sort_bits : (s : ℕ) → Other s → sort_of s ≡ bits
sort_bits s o =
    simp (ne_eqb s 114 o.0, ne_eqb s 99 o.1, ne_eqb s 105 o.2, ne_eqb s 110 o.3, ne_eqb s 109 o.4)

-- a word of the sort s, by its number in a row
module _ (line : Line) (w : List ℕ) (s : ℕ) {p : Read ℕ} {r : Read Line} where
  numbered : (k : Sort) (ws : List (List ℕ)) → 0 + length ws ≤ 256 → sort_of s ≡ k → word_bytes k w ≡ and_then (number_from 0 ws w) (λ n. got (n ∷ []))
      → p ≡ number_from 0 ws w → r ≡ and_then p (λ n. got (add_all line (n % 256 ∷ []))) → r ≡ and_then (word_bytes (sort_of s) w) (λ b. got (add_all line b))
  numbered k ws few e f g h =
      h
      ∙ ap (λ p. and_then p (λ n. got (add_all line (n % 256 ∷ [])))) g
      ∙ one line (number_from 0 ws w) (number_under 0 256 ws w few)
      ∙ ap (λ p. and_then p (λ b. got (add_all line b))) (sym f ∙ sym (ap (λ k. word_bytes k w) e))

  pub put-register : s ≡ 114 → p ≡ number_from 0 register_words w → r ≡ and_then p (λ n. got (add_all line (n % 256 ∷ [])))
      → r ≡ and_then (word_bytes (sort_of s) w) (λ b. got (add_all line b))
  unfolding word_bytes register_words
  put-register e g h = numbered a_register register_words (lit≤ tt) (ap sort_of e) refl g h

  pub put-class : s ≡ 99 → p ≡ number_from 0 class_words w → r ≡ and_then p (λ n. got (add_all line (n % 256 ∷ [])))
      → r ≡ and_then (word_bytes (sort_of s) w) (λ b. got (add_all line b))
  unfolding word_bytes class_words
  put-class e g h = numbered a_class class_words (lit≤ tt) (ap sort_of e) refl g h

  pub put_byte : s ≡ 110 → p ≡ number_from 0 index_words w → r ≡ and_then p (λ n. got (add_all line (n % 256 ∷ [])))
      → r ≡ and_then (word_bytes (sort_of s) w) (λ b. got (add_all line b))
  unfolding word_bytes index_words
  put_byte e g h = numbered a_byte index_words (lit≤ tt) (ap sort_of e) refl g h

  pub put-mode : s ≡ 109 → p ≡ number_from 0 mode_words w → r ≡ and_then p (λ n. got (add_all line (n % 256 ∷ [])))
      → r ≡ and_then (word_bytes (sort_of s) w) (λ b. got (add_all line b))
  unfolding word_bytes mode_words
  put-mode e g h = numbered a_mode mode_words (lit≤ tt) (ap sort_of e) refl g h

  pub put-index : s ≡ 105 → p ≡ number_from 0 index_words w → r ≡ and_then p (λ n. got (add_all line (n % 256 ∷ 0 ∷ [])))
      → r ≡ and_then (word_bytes (sort_of s) w) (λ b. got (add_all line b))
  unfolding word_bytes index_words
  put-index e g h =
      h
      ∙ ap (λ p. and_then p (λ n. got (add_all line (n % 256 ∷ 0 ∷ [])))) g
      ∙ two line (number_from 0 index_words w) (number_under 0 256 index_words w (lit≤ tt))
      ∙ sym (ap (λ k. and_then (word_bytes k w) (λ b. got (add_all line b))) (ap sort_of e))

pub put-bits : (line : Line) (w : List ℕ) (s : ℕ) {r : Read Line} → Other s
    → r ≡ and_then (bits_of w) (λ b. got (add_all line b)) → r ≡ and_then (word_bytes (sort_of s) w) (λ b. got (add_all line b))
unfolding word_bytes
put-bits line w s o h = h ∙ sym (ap (λ k. and_then (word_bytes k w) (λ b. got (add_all line b))) (sort_bits s o))
