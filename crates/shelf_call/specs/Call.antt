-- What the C function gives, over the bytes that a caller lends.
use Rattle.std.specs.Prelude.{ℕ, not, cond, List, [], ◌∷◌, length, eqb}
use Rattle.words.specs.Bytes.{bytes_of}
use Rattle.figures.specs.declared.entry.Figures.{Figures}
use Rattle.figures.specs.Shelf.{shelf}

-- what a call of `tulipcricket_shelf` returns, and the bytes that it leaves in the answer
pub record ShelfCall : Type 0 where
  pub number : ℕ
  pub answer : List ℕ

-- the answer: number, index, bytes, constants, records
abbrev pub numbers : Figures → List ℕ
numbers f = f.number ∷ f.index ∷ f.bytes ∷ f.constants ∷ f.records ∷ []

-- An answer of another length than 40 bytes is refused by 8 with nothing written. Otherwise the call gives what the entry gives.
unfoldable pub shelf_call : List ℕ → List ℕ → ShelfCall
unfolding bytes_of
shelf_call sheet lent =
    cond (not (eqb (length lent) 40)) (record { number = 8; answer = lent })
    (let f = shelf sheet in record { number = f.number; answer = bytes_of (numbers f) })
