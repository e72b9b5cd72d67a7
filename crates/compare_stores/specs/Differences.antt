-- Where two stores differ.
use Rattle.std.specs.Prelude.{ℕ, zero, suc, ◌+◌, ◌-◌, ◌*◌, ◌≡◌, ◌≤◌, ◌<◌, Option, MatchOption, cond, List, [], ◌++◌, length, ltb, eqb}
use Rattle.words.specs.Bytes.{word_at}
use Rattle.text.specs.Text.{ascii}
use Rattle.reports.specs.Lines.{difference_line, more_text}

-- the first of n words from i on that differs; where none does, the index behind them
unfoldable pub difference_in : List ℕ → List ℕ → ℕ → ℕ → ℕ
difference_in one other zero i = i
difference_in one other (suc n) i = cond (eqb (word_at one (8 * i)) (word_at other (8 * i))) (difference_in one other n (suc i)) i

-- of a store's 1,602 words
abbrev pub next_difference : List ℕ → List ℕ → ℕ → ℕ
next_difference one other from = difference_in one other (1602 - from) from

-- an index of a store's words, or none for one behind them
abbrev pub IsNext : ℕ → Option ℕ → Type 0
IsNext i o = MatchOption o (1602 ≤ i) (λ k. (k ≡ i) × (k < 1602))

-- the lines of the first n words from an index on that differ
unfoldable pub difference_lines : List ℕ → List ℕ → ℕ → ℕ → List ℕ
unfolding difference_in difference_line
difference_lines one other zero from = []
difference_lines one other (suc n) from =
    let i : ℕ = next_difference one other from in
    cond (ltb i 1602)
    (difference_line i (word_at one (8 * i)) (word_at other (8 * i)) ++ difference_lines one other n (i + 1))
    []

-- these lines, or `same` where there is none
abbrev pub lines_or_same : List ℕ → List ℕ
lines_or_same lines = cond (eqb (length lines) 0) (ascii "same\n") lines

-- 1 where two words differ
abbrev pub one_where : ℕ → ℕ → ℕ
one_where one other = cond (eqb one other) 0 1

-- how many of n words from i on differ
unfoldable pub differing : List ℕ → List ℕ → ℕ → ℕ → ℕ
differing one other zero i = 0
differing one other (suc n) i = one_where (word_at one (8 * i)) (word_at other (8 * i)) + differing one other n (suc i)

-- how many more there are, where there are more
abbrev pub more : ℕ → List ℕ
more n = cond (eqb n 0) [] (more_text n)

-- the whole text of two stores: the lines of so many words at most, then how many more differ
unfoldable pub comparison : ℕ → List ℕ → List ℕ → List ℕ
comparison most one other = lines_or_same (difference_lines one other most 0) ++ more (differing one other 1602 0 - most)
