-- What the C function gives, over the bytes that a caller lends.
use Rattle.std.specs.Prelude.{ℕ, ◌%◌, not, cond, List, [], ◌∷◌, length, eqb}
use Rattle.words.specs.Bytes.{bytes_of, words_of}
use Rattle.nearest.specs.Nearest.{Values, nearest}

-- what a call of `tulipcricket_nearest` returns, and the bytes that it leaves in the answer
pub record NearestCall : Type 0 where
  pub number : ℕ
  pub answer : List ℕ

-- the answer: number, 1 where there is a nearest point, its index
abbrev pub numbers : Values → List ℕ
numbers v = v.number ∷ v.found ∷ v.index ∷ []

-- An answer of another length than 24 bytes is refused by 8 with nothing written, and points that are no whole number of words by 8.
-- Otherwise the call gives what the entry gives for the words.
unfoldable pub nearest_call : ℕ → ℕ → List ℕ → List ℕ → NearestCall
unfolding bytes_of words_of
nearest_call re im points lent =
    cond (not (eqb (length lent) 24)) (record { number = 8; answer = lent })
    (cond (not (eqb (length points % 8) 0)) (record { number = 8; answer = bytes_of (8 ∷ 0 ∷ 0 ∷ []) })
    (let v = nearest re im (words_of points) in record { number = v.number; answer = bytes_of (numbers v) }))
