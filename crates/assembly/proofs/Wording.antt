-- The words of a line, put one after the other.
use Prim.Native.Nat.{ℕ, ◌+◌, ◌-◌, ◌≤◌, ◌<◌}
use mathlib.Core.Path.{◌≡◌, refl, sym, ap, ◌∙◌}
use mathlib.Core.List.{List, [], ◌∷◌, ◌++◌, map}
use native.Mathlib.Omega.{arith}
use native.Mathlib.Numerals.{add-one}
use lib.ListN.{length, take, drop, get_or, drop_of_length-le}
use lib.Seq.{drop-cons}
use Rattle.mir.specs.Read.{Read, got, refused, and_then}
use Rattle.text.specs.declared.line.Line.{Line}
use Rattle.text.specs.Line.{empty_line, add_all, add_all_append}
use Rattle.assembly.specs.Assembled.{Sort, LineKind, Reading, words_of, word_bytes, onto, taking, taking_all, no_more}
use Rattle.assembly.specs.Reading.{run, sort_of, words_put}
use Rattle.assembly.specs.Making.{Told, tagged, told}
use Rattle.assembly.proofs.Runs.{no_words, word-at}

pub behind_end : (s : List ℕ) (e : ℕ) → length s ≤ e → drop e s ≡ drop (e + 1) s
behind_end s e h = let g : length s ≤ e + 1 = omega (arith, h) in drop_of_length-le s h ∙ sym (drop_of_length-le s g)

-- one word put, then the others
after : (r : Read (List ℕ)) (line : Line) (ks : List Sort) (ws : List (List ℕ))
    → and_then r (λ b. words_put ks (add_all line b) ws) ≡ and_then (and_then r (λ b. got (add_all line b))) (λ m. words_put ks m ws)
after (got b) line ks ws = refl
after (refused n) line ks ws = refl

-- from a position on, where the blanks end at i
module _ (sorts l : List ℕ) (k at i : ℕ) (line : Line) {r : Read Line}
    (known : words_put (map sort_of (drop k sorts)) line (words_of (drop at l)) ≡ r) (q : i ≡ at + run 1 (drop at l)) where
  pub no_word : k < length sorts → length l ≤ i → refused 3 ≡ r
  unfolding words_put
  no_word h g = rw (drop-cons sorts k 0 h, no_words l at i q g) at known

  -- the word there, which ends at e, and the words behind it
  module _ (e : ℕ) (h : k < length sorts) (g : i < length l) (p : e ≡ i + run 0 (drop i l)) where
    abbrev here : Read (List ℕ)
    here = word_bytes (sort_of (get_or sorts k 0)) (take (e - i) (drop i l))

    abbrev onward : Line → Read Line
    onward m = words_put (map sort_of (drop (k + 1) sorts)) m (words_of (drop e l))

    next_word : and_then here (λ b. onward (add_all line b)) ≡ r
    unfolding words_put
    next_word = rw (add-one k) (rw (drop-cons sorts k 0 h, word-at l at i q e g p) at known)

    -- what comes of it, by what is read of the word
    pub through : (x : Read Line) → x ≡ and_then here (λ b. got (add_all line b)) → and_then x onward ≡ r
    through x put =
        ap (λ x. and_then x onward) put
        ∙ sym (after here line (map sort_of (drop (k + 1) sorts)) (words_of (drop e l)))
        ∙ next_word

  pub all-put : length sorts ≤ k → length l ≤ i → got line ≡ r
  unfolding words_put
  all-put h g = rw (drop_of_length-le sorts h, no_words l at i q g) at known

  pub too_many : length sorts ≤ k → i < length l → refused 3 ≡ r
  unfolding words_put
  too_many h g = rw (drop_of_length-le sorts h, word-at l at i q (i + run 0 (drop i l)) g refl) at known

-- what is put is what the definition reads
module _ (part : LineKind) where
  abbrev Rest : List Sort → Read Reading → Read Told
  Rest ks r = and_then (and_then (taking_all ks r) (λ r. no_more r r.words)) told

  abbrev Read-as : List Sort → List (List ℕ) → List ℕ → Type 0
  Read-as ks ws bytes =
      and_then (words_put ks (add_all empty_line bytes) ws) (tagged part) ≡ Rest ks (got (record { part = part; bytes = bytes; words = ws }))

  all-refused : (ks : List Sort) (n : ℕ) → taking_all ks (refused n) ≡ refused n
  all-refused [] n = refl
  all-refused (k ∷ ks) n = all-refused ks n

  none : (ks : List Sort) (n : ℕ) → refused n ≡ Rest ks (refused n)
  none ks n = sym (ap (λ r. and_then (and_then r (λ r. no_more r r.words)) told) (all-refused ks n))

  one_word : (ks : List Sort) (ws : List (List ℕ)) (bytes : List ℕ) (x : Read (List ℕ)) → ((b : List ℕ) → Read-as ks ws b)
      → and_then (and_then x (λ b. words_put ks (add_all (add_all empty_line bytes) b) ws)) (tagged part) ≡ Rest ks (onto part bytes ws x)
  one_word ks ws bytes (got b) ih =
      ap (λ l. and_then (words_put ks l ws) (tagged part)) (sym (add_all_append empty_line bytes b)) ∙ ih (bytes ++ b)
  one_word ks ws bytes (refused n) ih = none ks n

  pub words-put : (ks : List Sort) (ws : List (List ℕ)) (bytes : List ℕ) → Read-as ks ws bytes
  unfolding words_put taking
  words-put [] [] bytes = refl
  words-put [] (w ∷ ws) bytes = refl
  words-put (k ∷ ks) [] bytes = none ks 3
  words-put (k ∷ ks) (w ∷ ws) bytes = one_word ks ws bytes (word_bytes k w) (words-put ks ws)
