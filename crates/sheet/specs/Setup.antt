-- What stands before a sheet's instructions (document 01, Sheet): the header and the constants, or the refusal 8.
use Rattle.std.specs.Prelude.{ℕ, zero, suc, ◌+◌, ◌*◌, Bool, not, cond, true, false, ◌&&◌, ◌||◌, List, [], ◌∷◌, length, take, drop, replicate, ltb, leb, eqb, Ok, Err, Result}
use Rattle.words.specs.Bytes as Words
use Rattle.mir.specs.declared.refusal.Refusal.{Refusal}
use Rattle.mir.specs.Refusal.{number}
use Rattle.mir.specs.Read.{Read, got, refused, refuse}
use Rattle.mir.specs.Field.{byte_at, u16_at}
use Rattle.sheet.specs.declared.setup.Mode.{Mode}
use Rattle.sheet.specs.declared.setup.Setup as Code

-- "mode byte (0 plain, 1 stable)"; "Newer sheets come with mode 2" (document 02, n)
abbrev pub mode_from : ℕ → Read Mode
mode_from b = cond (eqb b 0) (got Mode.Plain) (cond (eqb b 1) (got Mode.Stable) (cond (eqb b 2) (got Mode.Minding) (refused 8)))

-- whether a mode is stable: mode 2 is "stable mode, but"
abbrev pub is_stable : Mode → Bool
is_stable Mode.Plain = false
is_stable Mode.Stable = true
is_stable Mode.Minding = true

-- whether it is mode 2, "Half that minds the record"
abbrev pub is_minding : Mode → Bool
is_minding Mode.Plain = false
is_minding Mode.Stable = false
is_minding Mode.Minding = true

-- "First a header: kind 32, mode byte [..], 64 bytes of realness [..]: length 69." "A wrong header [..] is refused by 8." What is read is
-- the mode. A sheet of any length is read: document 02, h) "The wrong setup for an over-long sheet thus goes".
unfoldable pub header_from : List ℕ → Read Mode
header_from s =
    refuse (ltb (length s) 69) 8
    (refuse (not (eqb (u16_at s 0) 69)) 8
    (refuse (not (eqb (u16_at s 2) 32)) 8
    (mode_from (byte_at s 4))))

-- a constant stands first: four bytes can be read, and their kind is 33
abbrev pub is_constant : List ℕ → Bool
is_constant s = leb 4 (length s) && eqb (u16_at s 2) 33

-- "a kind 33 before the instructions whose length is not 12 or runs past the end"
abbrev pub is_broken : List ℕ → Bool
is_broken s = not (eqb (u16_at s 0) 12) || ltb (length s) 12

abbrev pub one_more : Read ℕ → Read ℕ
one_more (got n) = got (suc n)
one_more (refused n) = refused n

-- "Then constants: kind 33, eight bytes each, 0 to 251 of them": how many stand first, where at most n may
unfoldable pub constants_from : ℕ → List ℕ → Read ℕ
constants_from zero s = refuse (is_constant s) 8 (got 0)
constants_from (suc n) s =
    cond (is_constant s) (refuse (is_broken s) 8 (one_more (constants_from n (drop 12 s)))) (got 0)

-- what a sheet begins with: its number is 0, or 8 where the setup is wrong; the mode, the bytes of realness, the count of constants, and
-- where the instructions begin
pub record Setup : Type 0 where
  pub number : ℕ
  pub mode : Mode
  pub places : List ℕ
  pub count : ℕ
  pub start : ℕ

-- 8, "with [..] all realness complex"
abbrev pub wrong : Setup
wrong = record { number = 8; mode = Mode.Plain; places = replicate 64 0; count = 0; start = 0 }

-- what was read: the mode, the bytes of realness, the count of constants, and where the instructions begin
abbrev pub setup_with : List ℕ → Mode → Read ℕ → Setup
setup_with s mode (got n) =
    record { number = 0; mode = mode; places = take 64 (drop 5 s); count = n; start = 69 + 12 * n }
setup_with s mode (refused n) = wrong

abbrev pub setup_from : List ℕ → Read Mode → Setup
setup_from s (got mode) = setup_with s mode (constants_from 251 (drop 69 s))
setup_from s (refused n) = wrong

unfoldable pub setup : List ℕ → Setup
unfolding header_from constants_from
setup s = setup_from s (header_from s)

-- the word of the constant with an index: the eight bytes behind its length and kind
unfoldable pub constant_at : List ℕ → ℕ → ℕ
unfolding Words.word_at
constant_at s i = Words.word_at s (73 + 12 * i)

-- n constants from the one with index i on, and the first n
abbrev pub constants_from_on : List ℕ → ℕ → ℕ → List ℕ
constants_from_on s zero i = []
constants_from_on s (suc n) i = constant_at s i ∷ constants_from_on s n (suc i)

abbrev pub constants_of : List ℕ → ℕ → List ℕ
constants_of s n = constants_from_on s n 0

-- the answer of the code
abbrev pub as_setup : Result Code.Setup Refusal → Setup
as_setup (Ok u) = record { number = 0; mode = u.mode; places = u.places; count = u.count; start = u.start }
as_setup (Err e) = record { number = number e; mode = Mode.Plain; places = replicate 64 0; count = 0; start = 0 }
