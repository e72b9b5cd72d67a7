-- How the program reads a text: by positions in its bytes. The answers of the code, as the definitions' own.
use Rattle.std.specs.Prelude.{ℕ, suc, cond, Option, None, Some, List, [], ◌∷◌, eqb}
use Rattle.mir.specs.Read.{Read, got, refused, and_then}
use Rattle.text.specs.declared.line.Line.{Line}
use Rattle.text.specs.Line.{empty_line, add_all}
use Rattle.assembly.specs.Assembled.{is_blank, FirstWord, Sort, a_register, a_class, an_index, a_byte, a_mode, bits, word_bytes}

-- how many bytes stand before the first byte c
unfoldable pub before : ℕ → List ℕ → ℕ
before c [] = 0
before c (b ∷ s) = cond (eqb b c) 0 (suc (before c s))

-- 1 for a blank, 0 for another byte
abbrev pub blankness : ℕ → ℕ
blankness b = cond (is_blank b) 1 0

-- how many bytes at the front are blanks, by 1, or how many are none, by 0
unfoldable pub run : ℕ → List ℕ → ℕ
run k [] = 0
run k (b ∷ s) = cond (eqb (blankness b) k) (suc (run k s)) 0

-- what was read, or none: that is refused by 3
abbrev pub read_of : {A : Type 0} → Option A → Read A
read_of (Some x) = got x
read_of None = refused 3

-- the sorts of words by letter: r, c, i, n, m, and another for a constant's bits
abbrev pub sort_of : ℕ → Sort
sort_of b =
    cond (eqb b 114) a_register
    (cond (eqb b 99) a_class (cond (eqb b 105) an_index (cond (eqb b 110) a_byte (cond (eqb b 109) a_mode bits))))

-- a line's bytes with those of its other words, by their sorts: as many words as sorts
unfoldable pub words_put : List Sort → Line → List (List ℕ) → Read Line
unfolding word_bytes
words_put [] line [] = got line
words_put [] line (w ∷ ws) = refused 3
words_put (k ∷ ks) line [] = refused 3
words_put (k ∷ ks) line (w ∷ ws) = and_then (word_bytes k w) (λ b. words_put ks (add_all line b) ws)

-- the bytes of a line by its first word, from the other words
abbrev pub head_put : FirstWord → List (List ℕ) → Read Line
head_put h ws = words_put h.sorts (add_all empty_line h.start) ws
