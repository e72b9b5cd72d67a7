-- What counts in a text, by computation.
use Rattle.std.specs.Prelude.{ℕ, ◌≡◌, refl, List, [], ◌∷◌, ◌++◌, replicate}
use Rattle.mir.specs.Field.{u16_at, takes_kind, place_at, save_place}
use Rattle.sheet.specs.Instruction.{instruction_from}
use Rattle.text.specs.Text.{ascii}
use Rattle.text.specs.Text as Text
use Rattle.assembly.specs.Assembled.{register_words, class_words, index_words, mode_words, accepted, refused_at, assembled}

-- a sheet of two instructions
abbrev sheet : List ℕ
sheet =
    69 ∷ 0 ∷ 32 ∷ 0 ∷ 0 ∷ replicate 64 0
    ++ 8 ∷ 0 ∷ 4 ∷ 0 ∷ 0 ∷ 1 ∷ 3 ∷ 0 ∷ []
    ++ 8 ∷ 0 ∷ 5 ∷ 0 ∷ 0 ∷ 1 ∷ 4 ∷ 0 ∷ []

-- its text as it is printed
pub printed : assembled (ascii "mode plain\nLoad G0 Mem 3\nSave G0 Mem 4\n") ≡ accepted sheet
unfolding assembled ascii mode_words register_words class_words index_words Text.register instruction_from u16_at takes_kind place_at save_place
printed = refl

-- with a byte order mark, a comment in a line of its own, an empty line, two spaces for one, carriage returns, a tab before the first word,
-- a comment behind a word, a line of blanks, and no line feed at the end
pub written_by_hand :
    assembled
    (239 ∷ 187 ∷ 191 ∷ ascii "# mode stable\n\nmode  plain"
    ++ 13 ∷ 10 ∷ 9 ∷ ascii "Load G0 Mem 3 # Load G1 Mem 4"
    ++ 13 ∷ 10 ∷ 32 ∷ 9 ∷ 10 ∷ ascii "Save G0 Mem 4#5")
    ≡ accepted sheet
unfolding assembled ascii mode_words register_words class_words index_words Text.register instruction_from u16_at takes_kind place_at save_place
written_by_hand = refl

-- a byte order mark counts for nothing at the text's begin alone
pub second_mark : assembled (239 ∷ 187 ∷ 191 ∷ 239 ∷ 187 ∷ 191 ∷ ascii "mode plain\n") ≡ refused_at 1 1
unfolding assembled ascii
second_mark = refl

-- a line without words has its number
pub third_line : assembled (ascii "# first\n\nLoad G0 Mem 3\n") ≡ refused_at 3 1
unfolding assembled ascii register_words class_words index_words Text.register
third_line = refl

-- a text without words
pub no_words : assembled (ascii "# first\n\n") ≡ refused_at 3 1
unfolding assembled ascii
no_words = refl

-- a word more
pub word_more : assembled (ascii "mode plain\nNop # Nop\nNop Nop\n") ≡ refused_at 3 3
unfolding assembled ascii mode_words instruction_from u16_at takes_kind
word_more = refl
