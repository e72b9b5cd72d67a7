-- Words as bytes: each word is eight bytes, the lowest first.
use Rattle.std.specs.Prelude.{ℕ, zero, suc, ◌+◌, ◌*◌, ◌/◌, ◌%◌, cond, List, [], ◌∷◌, ◌++◌, length, take, drop, leb}
use Rattle.std.proofs.lemmas.List.Edits.{sets}

-- the lowest n bytes of a number, lowest first
unfoldable pub bytes : ℕ → ℕ → List ℕ
bytes zero w = []
bytes (suc n) w = w % 256 ∷ bytes n (w / 256)

-- the number that bytes stand for, lowest first
unfoldable pub number : List ℕ → ℕ
number [] = 0
number (b ∷ s) = b + 256 * number s

-- the bytes of words, one word after the other
unfoldable pub bytes_of : List ℕ → List ℕ
unfolding bytes
bytes_of [] = []
bytes_of (w ∷ ws) = bytes 8 w ++ bytes_of ws

-- the first n words of bytes
unfoldable pub words : ℕ → List ℕ → List ℕ
unfolding number
words zero s = []
words (suc n) s = number (take 8 s) ∷ words n (drop 8 s)

-- the word whose lowest byte stands at a position; a byte past the end counts as 0
unfoldable pub word_at : List ℕ → ℕ → ℕ
unfolding number
word_at s at = number (take 8 (drop at s))

-- all whole words of bytes
unfoldable pub words_of : List ℕ → List ℕ
unfolding words
words_of s = words (length s / 8) s

-- a list stored over another from a position on; where there is no room for the whole, nothing changes
unfoldable pub stored : {X : Type 0} → List X → ℕ → List X → List X
stored l at v = cond (leb (at + length v) (length l)) (sets l at v) l
