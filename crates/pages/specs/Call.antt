-- What the C function gives, over the bytes that a caller lends.
use Rattle.std.specs.Prelude.{ℕ, ◌%◌, not, cond, List, [], ◌∷◌, length, eqb}
use Rattle.words.specs.Bytes.{bytes_of, words_of}
use Rattle.pages.specs.Printed.{Printed, refused, printed, printed_part}

-- what a call of `tulipcricket_pages_unguarded` returns, and the bytes that it leaves in the page slice and in the answer
pub record PagesCall : Type 0 where
  pub number : ℕ
  pub pages : List ℕ
  pub answer : List ℕ

-- the answer: number, index and count of pages, eight bytes each
abbrev pub given : Printed → PagesCall
given p = record { number = p.number; pages = p.out; answer = bytes_of (p.number ∷ p.index ∷ p.pages ∷ []) }

-- constants as bytes: where they are no whole number of words the setup is wrong, 8
abbrev pub of_words : List ℕ → List ℕ → (List ℕ → Printed) → Printed
of_words constants out entry = cond (not (eqb (length constants % 8) 0)) (refused 8 0 out) (entry (words_of constants))

-- An answer of another length than 24 bytes is refused by 8 with nothing written. Otherwise the call gives what the entry gives for the
-- words, or 8 where there are none.
unfoldable pub pages_call : List ℕ → List ℕ → List ℕ → List ℕ → PagesCall
unfolding bytes_of words_of printed
pages_call listing constants out lent =
    cond (not (eqb (length lent) 24)) (record { number = 8; pages = out; answer = lent })
    (given (of_words constants out (λ words. printed listing words out)))

-- a part of the pages, by constants as bytes
unfoldable pub part_of : ℕ → ℕ → List ℕ → List ℕ → List ℕ → Printed
unfolding words_of printed_part
part_of first most listing constants out = of_words constants out (λ words. printed_part first most listing words out)
