-- The words of a line by positions: where one begins and where it ends.
use Prim.Native.Nat.{ℕ, suc, ◌+◌, ◌-◌, ◌≤◌, ◌<◌}
use mathlib.Core.Path.{◌≡◌, refl, sym, ap, ◌∙◌}
use mathlib.Core.Bool.{Bool, true, false, cond}
use mathlib.Core.List.{List, [], ◌∷◌}
use native.Mathlib.Omega.{arith}
use native.Mathlib.Numerals.{add-one}
use borrow.Author.Tests.{ne_eqb}
use lib.ListN.{length, take, drop, get_or, drop_of_length-le, length-drop}
use lib.Seq.{drop-cons, drop-drop}
use lib.Dec.{eqb}
use Rattle.assembly.specs.Assembled.{joined, is_blank, word_ends, words_of}
use Rattle.assembly.specs.Reading.{blankness, run}

-- a byte that is none of the three blanks
pub no_blank : (b : ℕ) → (b ≡ 32 → ⊥) → (b ≡ 9 → ⊥) → (b ≡ 13 → ⊥) → is_blank b ≡ false
unfolding is_blank
no_blank b x y z = simp (ne_eqb b 32 x, ne_eqb b 9 y, ne_eqb b 13 z)

-- a byte that goes on with a run, or that ends it
pub run_on : (k : ℕ) (s : List ℕ) (i : ℕ) → i < length s → eqb (blankness (get_or s i 0)) k ≡ true
    → i + 1 + run k (drop (i + 1) s) ≡ i + run k (drop i s)
unfolding run
run_on k s i h e = rw (drop-cons s i 0 h, e, add-one i) (omega arith)

pub run_stop : (k : ℕ) (s : List ℕ) (i : ℕ) → i < length s → eqb (blankness (get_or s i 0)) k ≡ false → i ≡ i + run k (drop i s)
unfolding run
run_stop k s i h e = rw (drop-cons s i 0 h, e) (omega arith)

pub run_out : (k : ℕ) (s : List ℕ) (i : ℕ) → length s ≤ i → i ≡ i + run k (drop i s)
unfolding run
run_out k s i h = rw (drop_of_length-le s h) (omega arith)

one_more : (n k : ℕ) (t : Bool) → n ≤ k → cond t (suc n) 0 ≤ suc k
one_more n k true h = omega (arith, h)
one_more n k false h = omega arith

run_within : (k : ℕ) (s : List ℕ) → run k s ≤ length s
unfolding run
run_within k [] = omega arith
run_within k (b ∷ s) = one_more (run k s) (length s) (eqb (blankness b) k) (run_within k s)

pub run_inside : (k : ℕ) (s : List ℕ) (i e : ℕ) → i ≤ length s → e ≡ i + run k (drop i s) → (i ≤ e) × (e ≤ length s)
run_inside k s i e h q =
    let w = run_within k (drop i s) in
    let l : length (drop i s) ≡ length s - i = simp length-drop in
    (omega (arith, q), omega (arith, q, w, l, h))

-- a run by its first byte
module _ (b : ℕ) (s : List ℕ) where
  blank-run : is_blank b ≡ true → run 1 (b ∷ s) ≡ suc (run 1 s)
  unfolding run
  blank-run e = ap (λ t. cond (eqb (cond t 1 0) 1) (suc (run 1 s)) 0) e

  no-blanks : is_blank b ≡ false → run 1 (b ∷ s) ≡ 0
  unfolding run
  no-blanks e = ap (λ t. cond (eqb (cond t 1 0) 1) (suc (run 1 s)) 0) e

  word-run : is_blank b ≡ false → run 0 (b ∷ s) ≡ suc (run 0 s)
  unfolding run
  word-run e = ap (λ t. cond (eqb (cond t 1 0) 0) (suc (run 0 s)) 0) e

  no-word-run : is_blank b ≡ true → run 0 (b ∷ s) ≡ 0
  unfolding run
  no-word-run e = ap (λ t. cond (eqb (cond t 1 0) 0) (suc (run 0 s)) 0) e

  blank-first : is_blank b ≡ true → words_of (b ∷ s) ≡ words_of s
  unfolding words_of
  blank-first e = ap (λ t. cond t (words_of s) (cond (word_ends s) ((b ∷ []) ∷ words_of s) (joined b (words_of s)))) e

  -- a byte that is no blank begins a word
  pub word_first : is_blank b ≡ false → words_of (b ∷ s) ≡ cond (word_ends s) ((b ∷ []) ∷ words_of s) (joined b (words_of s))
  unfolding words_of
  word_first e = ap (λ t. cond t (words_of s) (cond (word_ends s) ((b ∷ []) ∷ words_of s) (joined b (words_of s)))) e

-- behind the blanks at the front there are the same words, and no blank
record Behind (s : List ℕ) : Type 0 where
  words : words_of s ≡ words_of (drop (run 1 s) s)
  none : run 1 (drop (run 1 s) s) ≡ 0

behind_by : (b : ℕ) (s : List ℕ) (t : Bool) → is_blank b ≡ t → Behind s → Behind (b ∷ s)
behind_by b s true e h =
    let n = blank-run b s e in
    record {
      words = blank-first b s e ∙ h.words ∙ sym (ap (λ n. words_of (drop n (b ∷ s))) n);
      none = ap (λ n. run 1 (drop n (b ∷ s))) n ∙ h.none;
    }
behind_by b s false e h =
    let n = no-blanks b s e in
    record { words = sym (ap (λ n. words_of (drop n (b ∷ s))) n); none = ap (λ n. run 1 (drop n (b ∷ s))) n ∙ n }

behind_blanks : (s : List ℕ) → Behind s
unfolding run
behind_blanks [] = record { words = refl; none = refl }
behind_blanks (b ∷ s) = behind_by b s (is_blank b) refl (behind_blanks s)

-- the first word, and those behind it
abbrev Word : ℕ → List ℕ → Type 0
Word b s = words_of (b ∷ s) ≡ (b ∷ take (run 0 s) s) ∷ words_of (drop (run 0 s) s)

word_by : (b a : ℕ) (s : List ℕ) (t : Bool) → is_blank b ≡ false → is_blank a ≡ t → (is_blank a ≡ false → Word a s) → Word b (a ∷ s)
word_by b a s true e f ih =
    word_first b (a ∷ s) e
    ∙ ap (λ t. cond t ((b ∷ []) ∷ words_of (a ∷ s)) (joined b (words_of (a ∷ s)))) f
    ∙ sym (ap (λ n. (b ∷ take n (a ∷ s)) ∷ words_of (drop n (a ∷ s))) (no-word-run a s f))
word_by b a s false e f ih =
    word_first b (a ∷ s) e
    ∙ ap (λ t. cond t ((b ∷ []) ∷ words_of (a ∷ s)) (joined b (words_of (a ∷ s)))) f
    ∙ ap (joined b) (ih f)
    ∙ sym (ap (λ n. (b ∷ take n (a ∷ s)) ∷ words_of (drop n (a ∷ s))) (word-run a s f))

word : (b : ℕ) (s : List ℕ) → is_blank b ≡ false → Word b s
unfolding run
word b [] e = word_first b [] e
word b (a ∷ s) e = word_by b a s (is_blank a) e refl (word a s)

first_by : (b : ℕ) (s : List ℕ) (t : Bool) → is_blank b ≡ t → run 1 (b ∷ s) ≡ 0
    → words_of (b ∷ s) ≡ take (run 0 (b ∷ s)) (b ∷ s) ∷ words_of (drop (run 0 (b ∷ s)) (b ∷ s))
first_by b s true e z = let n = blank-run b s e in absurd (omega (arith, n, z))
first_by b s false e z = word b s e ∙ sym (ap (λ n. take n (b ∷ s) ∷ words_of (drop n (b ∷ s))) (word-run b s e))

first : (s : List ℕ) → 0 < length s → run 1 s ≡ 0 → words_of s ≡ take (run 0 s) s ∷ words_of (drop (run 0 s) s)
first [] h z = absurd (omega (arith, h))
first (b ∷ s) h z = first_by b s (is_blank b) refl z

-- the words from a position on, where the blanks end at i
module _ (l : List ℕ) (at i : ℕ) (q : i ≡ at + run 1 (drop at l)) where
  behind : drop (run 1 (drop at l)) (drop at l) ≡ drop i l
  behind = drop-drop (run 1 (drop at l)) at l ∙ ap (λ k. drop k l) (sym q)

  from-there : words_of (drop at l) ≡ words_of (drop i l)
  from-there = (behind_blanks (drop at l)).words ∙ ap words_of behind

  pub no_words : length l ≤ i → words_of (drop at l) ≡ []
  unfolding words_of
  no_words h = from-there ∙ ap words_of (drop_of_length-le l h)

  -- a word ends at e
  pub word-at : (e : ℕ) → i < length l → e ≡ i + run 0 (drop i l) → words_of (drop at l) ≡ take (e - i) (drop i l) ∷ words_of (drop e l)
  word-at e h p =
      let m : 0 < length (drop i l) = simp length-drop (omega arith) in
      let z : run 1 (drop i l) ≡ 0 = sym (ap (run 1) behind) ∙ (behind_blanks (drop at l)).none in
      let n : run 0 (drop i l) ≡ e - i = omega (arith, p) in
      from-there
      ∙ first (drop i l) m z
      ∙ ap (λ x. take (run 0 (drop i l)) (drop i l) ∷ words_of x) (drop-drop (run 0 (drop i l)) i l ∙ ap (λ k. drop k l) (sym p))
      ∙ ap (λ k. take k (drop i l) ∷ words_of (drop e l)) n
