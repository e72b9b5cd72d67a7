-- The search for the next word that differs, word by word.
use Prim.Native.Nat.{ℕ, zero, suc, ◌+◌, ◌-◌, ◌*◌, ◌≤◌, ◌<◌}
use mathlib.Core.Path.{◌≡◌, refl, sym, ap, ◌∙◌}
use mathlib.Core.Bool.{cond}
use mathlib.Core.List.{List, [], ◌++◌, append-nil}
use native.Mathlib.Numerals.{add-one}
use native.Mathlib.Omega.{arith}
use borrow.Author.Tests.{eq-eqb, ne_eqb, lt-ltb, le-ltb}
use lib.ListN.{length}
use Rattle.text.specs.Text.{ascii}
use Rattle.words.specs.Bytes.{word_at}
use Rattle.reports.specs.Lines.{difference_line, more_text}
use Rattle.compare_stores.specs.Differences.{difference_in, next_difference, difference_lines, lines_or_same, one_where, differing, more, comparison}

module _ (one other : List ℕ) (i : ℕ) where
  abbrev rest : ℕ
  rest = difference_in one other (1602 - (i + 1)) (suc i)

  -- a word that is the same is passed over
  pub goes_on : i < 1602 → word_at one (8 * i) ≡ word_at other (8 * i) → next_difference one other i ≡ next_difference one other (i + 1)
  unfolding difference_in
  goes_on h e =
      let n : 1602 - i ≡ suc (1602 - (i + 1)) = omega arith in
      ap (λ n. difference_in one other n i) n
      ∙ ap (λ b. cond b rest i) (eq-eqb _ _ e)
      ∙ ap (difference_in one other (1602 - (i + 1))) (sym (add-one i))

  -- one that differs is found
  pub stops : i < 1602 → (word_at one (8 * i) ≡ word_at other (8 * i) → ⊥) → next_difference one other i ≡ i
  unfolding difference_in
  stops h e =
      let n : 1602 - i ≡ suc (1602 - (i + 1)) = omega arith in
      ap (λ n. difference_in one other n i) n ∙ ap (λ b. cond b rest i) (ne_eqb _ _ e)

  -- behind the last none is left
  pub ends : 1602 ≤ i → next_difference one other i ≡ i
  unfolding difference_in
  ends h = let n : 1602 - i ≡ 0 = omega arith in ap (λ n. difference_in one other n i) n

module _ (one other : List ℕ) (from : ℕ) {i : ℕ} (e : i ≡ next_difference one other from) where
  -- the line of the next word that differs, before the others
  pub line_on : (n : ℕ) → i < 1602
      → difference_lines one other (suc n) from
      ≡ difference_line i (word_at one (8 * i)) (word_at other (8 * i)) ++ difference_lines one other n (i + 1)
  unfolding difference_lines
  line_on n h = simp (← e, lt-ltb _ _ h)

  -- no word differs
  pub line-end : (n : ℕ) → 1602 ≤ i → difference_lines one other n from ≡ []
  unfolding difference_lines
  line-end zero h = refl
  line-end (suc n) h = simp (← e, le-ltb _ _ h)

module _ (lines : List ℕ) where
  pub unlike : (length lines ≡ 0 → ⊥) → lines ≡ lines_or_same lines
  unlike h = sym (ap (λ b. cond b (ascii "same\n") lines) (ne_eqb _ _ h))

  pub same : length lines ≡ 0 → ascii "same\n" ≡ lines_or_same lines
  same h = sym (ap (λ b. cond b (ascii "same\n") lines) (eq-eqb _ _ h))

pub lines_end : (one other : List ℕ) (from : ℕ) → difference_lines one other 0 from ≡ []
unfolding difference_lines
lines_end one other from = refl

-- one word more is counted
pub counts-on : (one other : List ℕ) (i : ℕ) → i < 1602
    → differing one other (1602 - i) i ≡ one_where (word_at one (8 * i)) (word_at other (8 * i)) + differing one other (1602 - (i + 1)) (i + 1)
unfolding differing
counts-on one other i h =
    let n : 1602 - i ≡ suc (1602 - (i + 1)) = omega arith in
    ap (λ n. differing one other n i) n
    ∙ ap (λ j. one_where (word_at one (8 * i)) (word_at other (8 * i)) + differing one other (1602 - (i + 1)) j) (sym (add-one i))

pub counts_end : (one other : List ℕ) (i : ℕ) → 1602 ≤ i → differing one other (1602 - i) i ≡ 0
unfolding differing
counts_end one other i h = let n : 1602 - i ≡ 0 = omega arith in ap (λ n. differing one other n i) n

-- what follows the first lines, by how many words differ
module _ (first : List ℕ) (d most n : ℕ) (e : n ≡ d) where
  fewer : n ≤ most → first ++ more (d - most) ≡ first
  fewer h =
      let z : d - most ≡ 0 = omega (arith, e, h) in
      ap (λ k. first ++ more k) z ∙ append-nil first

  further : most < n → first ++ more_text (n - most) ≡ first ++ more (d - most)
  further h =
      let z : n - most ≡ 0 → ⊥ = λ k. omega (arith, h, k) in
      ap (λ b. first ++ cond b [] (more_text (n - most))) (sym (ne_eqb _ _ z)) ∙ ap (λ k. first ++ more (k - most)) e

module _ (one other : List ℕ) (most : ℕ) {n : ℕ} (e : n ≡ differing one other 1602 0) where
  abbrev first : List ℕ
  first = lines_or_same (difference_lines one other most 0)

  pub no_more : n ≤ most → first ≡ comparison most one other
  unfolding comparison
  no_more h = sym (fewer first (differing one other 1602 0) most n e h)

  pub some_more : most < n → first ++ more_text (n - most) ≡ comparison most one other
  unfolding comparison
  some_more h = further first (differing one other 1602 0) most n e h
