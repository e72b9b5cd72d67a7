-- A case of the list: what is played, and the answer and the store that are expected; numbers little-endian. Assumes nothing.
use Rattle.std.specs.Prelude.{ℕ, zero, suc, ◌+◌, ◌*◌, Bool, not, ◌&&◌, List, set, take, drop, replicate, eqb}
use Rattle.player_machine.specs.Answer.{Answer, answer}
use Rattle.words.specs.Bytes.{word_at, words_of}
use Rattle.replay.specs.Numbers.{u32_at}
use Rattle.replay.specs.Same.{same}
use Rattle.replay.specs.Whole.{cut_at, WholeAt}
use Rattle.replay.specs.Tally.{Cases}

-- where the constants, the word that fills the store, the words set before and the words changed begin, and where the case ends
abbrev pub constants_at : List ℕ → ℕ
constants_at s = 48 + u32_at s 0

abbrev pub fill_at : List ℕ → ℕ
fill_at s = constants_at s + 8 * u32_at s 4

abbrev pub before_at : List ℕ → ℕ
before_at s = fill_at s + 8

abbrev pub changed_at : List ℕ → ℕ
changed_at s = before_at s + 12 * u32_at s 12

abbrev pub end : List ℕ → ℕ
end s = changed_at s + 12 * u32_at s 16

-- the bytes begin with no whole case that ends at a position; a case has at most 257 constants and 1,603 words of the store
abbrev pub cut : ℕ → List ℕ → Bool
cut = cut_at 48 257 1603

abbrev pub WholePlay : List ℕ → Type 0
WholePlay s = WholeAt 48 257 1603 (end s) s

-- a store with n words set, from the pairs of an index and a word that begin at a position
unfoldable pub patched : List ℕ → ℕ → List ℕ → ℕ → List ℕ
patched s at store zero = store
patched s at store (suc n) = set (patched s at store n) (u32_at s (at + 12 * n)) (word_at s (at + 12 * n + 4))

unfoldable pub listing : List ℕ → List ℕ
listing s = take (u32_at s 0) (drop 48 s)

unfoldable pub constants : List ℕ → List ℕ
unfolding words_of
constants s = words_of (take (8 * u32_at s 4) (drop (constants_at s) s))

-- the store filled with one word, the store before the play, and the one expected at its end
unfoldable pub filled : List ℕ → List ℕ
filled s = replicate (u32_at s 8) (word_at s (fill_at s))

unfoldable pub before : List ℕ → List ℕ
before s = patched s (before_at s) (filled s) (u32_at s 12)

unfoldable pub after : List ℕ → List ℕ
after s = patched s (changed_at s) (before s) (u32_at s 16)

-- what the machine answers to the case
unfoldable pub answered : List ℕ → Answer
answered s = answer (listing s) (constants s) (word_at s 20) (before s)

-- whether an answer is the expected one
unfoldable pub expected : List ℕ → Answer → Bool
expected s a =
    eqb a.number (u32_at s 28) && (eqb a.index (word_at s 32) && (eqb a.played (word_at s 40) && same a.store (after s)))

abbrev pub differs : List ℕ → Bool
differs s = not (expected s (answered s))

abbrev pub cases : Cases
cases = record { end = end; cut = cut; number = λ s. (answered s).number; differs = differs }
