-- What the commands print, as bytes.
use Rattle.std.specs.Prelude.{ℕ, ◌-◌, ◌/◌, ◌%◌, cond, List, [], ◌∷◌, ◌++◌, ltb, eqb}
use Prim.Native.String.{String}
use Rattle.text.specs.Text.{ascii, decimal_in, decimal, hex_in, hex, space, register, name_of, line}

-- document 01's table of refusals, by number, of which 0 is none; 10 and 11 are document 02's, d, which speaks of "unequal records" and
-- has no word for 10; 14 is document 02's, h; of 12 and 13 no line is printed
abbrev pub refusal_words : List String
refusal_words =
    "" ∷ "torn record" ∷ "unknown work" ∷ "bad register" ∷ "bad place" ∷ "missing constant" ∷ "barred operand" ∷ "listing full" ∷
    "wrong setup" ∷ "stray jump" ∷ "misplaced label" ∷ "unequal records" ∷ "" ∷ "" ∷ "sheet too long" ∷ []

-- `refused`, number, index and word
unfoldable pub refusal_line : ℕ → ℕ → List ℕ
unfolding ascii decimal_in
refusal_line number index =
    line (ascii "refused" ++ space (decimal number) ++ space (decimal index) ++ space (name_of refusal_words number))

-- lowering: `accepted`, the counts of instructions, of the listing's bytes and of constants
unfoldable pub lowered_line : ℕ → ℕ → ℕ → ℕ → List ℕ
unfolding ascii decimal_in refusal_line
lowered_line number index bytes constants =
    cond (eqb number 0)
    (line (ascii "accepted" ++ space (decimal index) ++ space (decimal bytes) ++ space (decimal constants)))
    (refusal_line number index)

-- playing: `played`, the count of the listing's records and how many were played
unfoldable pub played_line : ℕ → ℕ → ℕ → List ℕ
unfolding ascii decimal_in refusal_line
played_line number index played =
    cond (eqb number 0) (line (ascii "played" ++ space (decimal index) ++ space (decimal played))) (refusal_line number index)

-- the names of a place's class and of its halves, by number: "real then imaginary"
abbrev pub class_names : List String
class_names = "Stack" ∷ "Mem" ∷ "Param" ∷ []

abbrev pub half_names : List String
half_names = "re" ∷ "im" ∷ []

-- "the 66 registers, then 256 pairs each of Stack, Mem, Param"
unfoldable pub word_name : ℕ → List ℕ
unfolding ascii register decimal_in
word_name index =
    cond (ltb index 66) (register index)
    (name_of class_names ((index - 66) / 512)
    ++ space (decimal ((index - 66) % 512 / 2))
    ++ space (name_of half_names ((index - 66) % 2)))

-- a word of the store by its name, and its bits
unfoldable pub word_line : ℕ → ℕ → List ℕ
unfolding word_name hex_in
word_line index word = line (word_name index ++ space (hex word))

-- a word of the store by its name, and what stands there in either store
unfoldable pub difference_line : ℕ → ℕ → ℕ → List ℕ
unfolding word_name hex_in
difference_line index one other = line (word_name index ++ space (hex one) ++ space (hex other))

-- how many more there are
unfoldable pub more_text : ℕ → List ℕ
unfolding ascii decimal_in
more_text n = ascii "and" ++ space (decimal n) ++ ascii " more\n"
