-- A case of the list (oracle/src/lists.rs): a sheet, the lengths of the slices lent, and the answer and both slices that are expected; numbers
-- little-endian. Assumes nothing.
use Rattle.std.specs.Prelude.{ℕ, ◌+◌, ◌*◌, Bool, not, ◌&&◌, List, ◌++◌, map, ◌≡◌, take, drop, replicate, eqb}
use Rattle.mir.specs.Encode.{flag_byte}
use Rattle.lowering.specs.declared.realness.Realness.{Realness}
use Rattle.lowering.specs.RecordBytes.{record_bytes}
use Rattle.complexify.specs.declared.entry.LowerAnswer.{LowerAnswer}
use Rattle.complexify.specs.Entry as Entry
use Rattle.words.specs.Bytes.{words_of, stored}
use Rattle.replay.specs.Numbers.{u32_at}
use Rattle.replay.specs.Same.{same}
use Rattle.replay.specs.Whole.{cut_at, WholeAt}
use Rattle.replay.specs.Tally.{Cases}

-- the lengths of the sheet and of the two slices lent
abbrev pub sheet_length : List ℕ → ℕ
sheet_length s = u32_at s 0

abbrev pub room : List ℕ → ℕ
room s = u32_at s 4

abbrev pub table_length : List ℕ → ℕ
table_length s = u32_at s 8

-- the bytes written and the count of constants that are expected
abbrev pub written : List ℕ → ℕ
written s = u32_at s 20

abbrev pub count : List ℕ → ℕ
count s = u32_at s 24

-- where the listing's bytes and the constants begin, and where the case ends
abbrev pub listing_at : List ℕ → ℕ
listing_at s = 256 + sheet_length s

abbrev pub constants_at : List ℕ → ℕ
constants_at s = listing_at s + written s

abbrev pub end : List ℕ → ℕ
end s = constants_at s + 8 * count s

-- the bytes begin with no whole case that ends at a position; a case lends at most 65,537 bytes and 257 words
abbrev pub cut : ℕ → List ℕ → Bool
cut = cut_at 256 65537 257

abbrev pub WholeSheet : List ℕ → Type 0
WholeSheet s = WholeAt 256 65537 257 (end s) s

-- every byte of a slice that is lent to be written, and every word: n of them
unfoldable pub lent_bytes : ℕ → List ℕ
lent_bytes n = replicate n 165

unfoldable pub lent_words : ℕ → List ℕ
lent_words n = replicate n 11936128518282651045

-- the numbers lent for the origins, of which a case says nothing
abbrev pub lent_numbers : List ℕ
lent_numbers = replicate 256 0

-- both slices as a case lends them
pub record Lent (s listing constants : List ℕ) : Type 0 where
  pub bytes : listing ≡ lent_bytes (room s)
  pub words : constants ≡ lent_words (table_length s)

unfoldable pub sheet : List ℕ → List ℕ
sheet s = take (sheet_length s) (drop 256 s)

-- what lowering answers, and both slices after it
unfoldable pub answered : List ℕ → LowerAnswer
answered s = Entry.answer (sheet s) (lent_bytes (room s)) (lent_words (table_length s)) lent_numbers

unfoldable pub listing_after : List ℕ → List ℕ
listing_after s = Entry.listing_after (sheet s) (lent_bytes (room s)) (lent_words (table_length s)) lent_numbers

unfoldable pub constants_after : List ℕ → List ℕ
constants_after s = Entry.constants_after (sheet s) (lent_bytes (room s)) (lent_words (table_length s)) lent_numbers

-- whether number, index, bytes written and count of constants are the expected ones
unfoldable pub numbers_agree : List ℕ → LowerAnswer → Bool
numbers_agree s a =
    eqb a.number (u32_at s 12) && (eqb a.index (u32_at s 16) && (eqb a.written (written s) && eqb a.count (count s)))

-- whether the record of realness is, 32 flags of registers and 64 bytes of places
unfoldable pub real_agrees : List ℕ → Realness → Bool
real_agrees s ρ = same (record_bytes ρ) (take 96 (drop 28 s))

-- whether the marks are, a byte each: 66 of registers that are filled, and 66 of those drawn on before
unfoldable pub marks_agree : List ℕ → LowerAnswer → Bool
marks_agree s a = same (map flag_byte a.filled ++ map flag_byte a.drawn) (take 132 (drop 124 s))

-- the slices that are expected: what was to be written, and past it what was lent
unfoldable pub listing_expected : List ℕ → List ℕ
listing_expected s = stored (lent_bytes (room s)) 0 (take (written s) (drop (listing_at s) s))

unfoldable pub constants_expected : List ℕ → List ℕ
constants_expected s = stored (lent_words (table_length s)) 0 (words_of (take (8 * count s) (drop (constants_at s) s)))

unfoldable pub expected : List ℕ → LowerAnswer → List ℕ → List ℕ → Bool
expected s a listing constants =
    numbers_agree s a
    && (real_agrees s a.real && (marks_agree s a && (same listing (listing_expected s) && same constants (constants_expected s))))

unfoldable pub differs : List ℕ → Bool
differs s = not (expected s (answered s) (listing_after s) (constants_after s))

abbrev pub cases : Cases
cases = record { end = end; cut = cut; number = λ s. (answered s).number; differs = differs }
