-- A sheet from its text: the first word of a line says what it is, the others are its fields in order.
use Rattle.std.specs.Prelude.{ℕ, zero, suc, ◌+◌, ◌-◌, ◌*◌, ◌/◌, ◌%◌, ◌^◌, Bool, true, false, not, cond, ◌&&◌, ◌||◌, List, [], ◌∷◌, ◌++◌, map, length, get_or, set, drop, replicate, ltb, leb, eqb}
use Prim.Native.String.{String}
use Rattle.mir.specs.declared.records.Loc.{Loc}
use Rattle.mir.specs.declared.records.Instruction.{Instruction}
use Rattle.mir.specs.Length.{Field, op, register, place, constant, label, flag, fields}
use Rattle.mir.specs.Encode.{record_of}
use Rattle.mir.specs.Read.{Read, got, refused, refuse, and_then}
use Rattle.mir.specs.Field.{byte_at, place_at}
use Rattle.sheet.specs.Instruction.{instruction_from}
use Rattle.replay.specs.Same.{same}
use Rattle.text.specs.Text.{ascii, decimal, uni_names, bin_names, fused_names}
use Rattle.text.specs.Text as Text
use Rattle.assembly.specs.Lines.{named, refused_text, long_text}

-- the pieces of a text between the bytes c; one at its end closes the last piece
abbrev pub joined : ℕ → List (List ℕ) → List (List ℕ)
joined b [] = (b ∷ []) ∷ []
joined b (w ∷ ws) = (b ∷ w) ∷ ws

unfoldable pub pieces : ℕ → List ℕ → List (List ℕ)
pieces c [] = []
pieces c (b ∷ s) = cond (eqb b c) ([] ∷ pieces c s) (joined b (pieces c s))

-- a text may begin with a byte order mark, EF BB BF, which counts for nothing
unfoldable pub unmarked : List ℕ → List ℕ
unmarked s = cond (eqb (byte_at s 0) 239 && (eqb (byte_at s 1) 187 && eqb (byte_at s 2) 191)) (drop 3 s) s

-- of a line counts what stands before its first `#`
unfoldable pub uncommented : List ℕ → List ℕ
uncommented [] = []
uncommented (b ∷ s) = cond (eqb b 35) [] (b ∷ uncommented s)

-- the bytes between words: space, tab and carriage return
unfoldable pub is_blank : ℕ → Bool
is_blank b = eqb b 32 || (eqb b 9 || eqb b 13)

-- whether a word ends before these bytes: none is left, or the first is a blank
abbrev pub word_ends : List ℕ → Bool
word_ends [] = true
word_ends (b ∷ s) = is_blank b

-- the words: the longest runs of bytes that are no blanks
unfoldable pub words_of : List ℕ → List (List ℕ)
unfolding is_blank
words_of [] = []
words_of (b ∷ s) = cond (is_blank b) (words_of s) (cond (word_ends s) ((b ∷ []) ∷ words_of s) (joined b (words_of s)))

-- the number of a word in a row of words, of which the first has number n; 3: it is none of them
unfoldable pub number_from : ℕ → List (List ℕ) → List ℕ → Read ℕ
unfolding same
number_from n [] w = refused 3
number_from n (v ∷ vs) w = cond (same v w) (got n) (number_from (suc n) vs w)

-- n numbers from i on
abbrev pub counting : ℕ → ℕ → List ℕ
counting zero i = []
counting (suc n) i = i ∷ counting n (suc i)

-- the words of registers, of the classes of places, of indices and of modes, each at its number
unfoldable pub register_words : List (List ℕ)
register_words = map (λ r. Text.register (named r)) (counting 32 0)

unfoldable pub class_words : List (List ℕ)
class_words = map ascii ("Stack" ∷ "Mem" ∷ "Param" ∷ [])

unfoldable pub index_words : List (List ℕ)
index_words = map decimal (counting 256 0)

unfoldable pub mode_words : List (List ℕ)
mode_words = map ascii ("plain" ∷ "stable" ∷ "minding" ∷ [])

-- a hexadecimal digit's number; 16 for another byte
abbrev pub digit : ℕ → ℕ
digit b = cond (leb 48 b && leb b 57) (b - 48) (cond (leb 97 b && leb b 102) (b - 87) 16)

-- "16 hexadecimal digits, which are the bits of an f64": eight bytes, the lowest first
abbrev pub is_digit : ℕ → Bool
is_digit b = ltb (digit b) 16

abbrev pub are_digits : List ℕ → Bool
are_digits [] = true
are_digits (b ∷ s) = is_digit b && are_digits s

abbrev pub pair : List ℕ → ℕ → ℕ
pair w i = 16 * digit (byte_at w i) + digit (byte_at w (i + 1))

unfoldable pub bits_of : List ℕ → Read (List ℕ)
bits_of w =
    refuse (not (eqb (length w) 16 && are_digits w)) 3
    (got (pair w 14 ∷ pair w 12 ∷ pair w 10 ∷ pair w 8 ∷ pair w 6 ∷ pair w 4 ∷ pair w 2 ∷ pair w 0 ∷ []))

-- the sorts of words, and the bytes that a word of each sort stands for: an index has two, a constant's bits eight, the others one
pub data Sort : Type 0 where
  a_register a_class an_index a_byte a_mode bits : Sort

unfoldable pub word_bytes : Sort → List ℕ → Read (List ℕ)
unfolding number_from bits_of
word_bytes a_register w = and_then (number_from 0 register_words w) (λ n. got (n ∷ []))
word_bytes a_class w = and_then (number_from 0 class_words w) (λ n. got (n ∷ []))
word_bytes an_index w = and_then (number_from 0 index_words w) (λ n. got (n ∷ 0 ∷ []))
word_bytes a_byte w = and_then (number_from 0 index_words w) (λ n. got (n ∷ []))
word_bytes a_mode w = and_then (number_from 0 mode_words w) (λ n. got (n ∷ []))
word_bytes bits w = bits_of w

-- the words of a record's fields, in the table's order: "a place as class and index", "labels by number"; an operation is in the first word
abbrev pub field_sorts : List Field → List Sort
field_sorts [] = []
field_sorts (op ∷ fs) = field_sorts fs
field_sorts (register ∷ fs) = a_register ∷ field_sorts fs
field_sorts (place ∷ fs) = a_class ∷ an_index ∷ field_sorts fs
field_sorts (constant ∷ fs) = an_index ∷ field_sorts fs
field_sorts (label ∷ fs) = a_byte ∷ field_sorts fs
field_sorts (flag ∷ fs) = a_byte ∷ field_sorts fs

-- what a line is
pub data LineKind : Type 0 where
  mode real constant_line instruction : LineKind

-- a first word: what the line is, the bytes before its fields, and the sorts of its other words
pub record FirstWord : Type 0 where
  pub word : List ℕ
  pub part : LineKind
  pub start : List ℕ
  pub sorts : List Sort

-- a kind without operations, and the operations of a kind from number n on
abbrev pub of_kind : ℕ → List ℕ → String → FirstWord
of_kind kind ops name =
    record { word = ascii name; part = instruction; start = record_of kind ops; sorts = field_sorts (get_or fields kind []) }

abbrev pub operations : ℕ → ℕ → List String → List FirstWord
operations kind n [] = []
operations kind n (name ∷ names) = of_kind kind (n ∷ []) name ∷ operations kind (suc n) names

-- "First a header: kind 32, mode byte"; a real place has no record; "kind 33, eight bytes each"; then the kinds of a sheet
unfoldable pub heads : List FirstWord
unfolding ascii record_of
heads =
    record { word = ascii "mode"; part = mode; start = 69 ∷ 0 ∷ 32 ∷ 0 ∷ []; sorts = a_mode ∷ [] }
    ∷ record { word = ascii "real"; part = real; start = []; sorts = a_class ∷ an_index ∷ [] }
    ∷ record { word = ascii "constant"; part = constant_line; start = 12 ∷ 0 ∷ 33 ∷ 0 ∷ []; sorts = bits ∷ [] }
    ∷ of_kind 0 [] "Nop"
    ∷ operations 1 0 uni_names
    ++ operations 2 0 bin_names
    ++ of_kind 3 [] "Mov"
    ∷ of_kind 4 [] "Load"
    ∷ of_kind 5 [] "Save"
    ∷ of_kind 6 [] "LoadConst"
    ∷ operations 7 0 fused_names
    ++ of_kind 8 [] "IfElse"
    ∷ operations 9 0 ("PlusLoad" ∷ "MinusLoad" ∷ "TimesLoad" ∷ "DivideLoad" ∷ [])
    ++ operations 10 0 ("PlusConst" ∷ "MinusConst" ∷ "TimesConst" ∷ "DivideConst" ∷ [])
    ++ of_kind 14 [] "Label"
    ∷ of_kind 15 [] "Branch"
    ∷ of_kind 17 [] "BranchIf"
    ∷ []

-- a line as far as it was read: what it is, its bytes, the words that are left
pub record Reading : Type 0 where
  pub part : LineKind
  pub bytes : List ℕ
  pub words : List (List ℕ)

-- one word more
abbrev pub onto : LineKind → List ℕ → List (List ℕ) → Read (List ℕ) → Read Reading
onto part bytes ws (got b) = got (record { part = part; bytes = bytes ++ b; words = ws })
onto part bytes ws (refused n) = refused n

abbrev pub next_word : Sort → LineKind → List ℕ → List (List ℕ) → Read Reading
next_word k part bytes [] = refused 3
next_word k part bytes (w ∷ ws) = onto part bytes ws (word_bytes k w)

unfoldable pub taking : Sort → Reading → Read Reading
unfolding word_bytes
taking k r = next_word k r.part r.bytes r.words

abbrev pub taking_all : List Sort → Read Reading → Read Reading
taking_all [] r = r
taking_all (k ∷ ks) r = taking_all ks (and_then r (taking k))

-- no word is left
abbrev pub no_more : Reading → List (List ℕ) → Read Reading
no_more r [] = got r
no_more r (w ∷ ws) = refused 3

-- a line read, from the words that it has
abbrev pub begun : FirstWord → List (List ℕ) → Reading
begun h ws = record { part = h.part; bytes = h.start; words = ws }

abbrev pub nothing : FirstWord
nothing = record { word = []; part = instruction; start = []; sorts = [] }

unfoldable pub line_of : List (List ℕ) → Read Reading
unfolding number_from heads taking
line_of [] = refused 3
line_of (w ∷ ws) =
    and_then (number_from 0 (map (λ h. h.word) heads) w)
    (λ n. and_then (taking_all (get_or heads n nothing).sorts (got (begun (get_or heads n nothing) ws))) (λ r. no_more r r.words))

-- a sheet that is being made: its bytes, how many constants and how many instructions it has, and how far it is (0: no mode yet, 1: real
-- places may follow, 2: constants, 3: instructions)
pub record Draft : Type 0 where
  pub bytes : List ℕ
  pub count : ℕ
  pub instructions : ℕ
  pub stage : ℕ

-- the header's bit of a place that may be real: "Mem is always complex"
abbrev pub bit_of : Loc → Read ℕ
bit_of (Loc.Stack i) = got i
bit_of (Loc.Mem i) = refused 3
bit_of (Loc.Param i) = got (256 + i)

-- a bit set in the header's 64 bytes of realness, which begin at the sixth byte
unfoldable pub marked : List ℕ → ℕ → List ℕ
marked s i =
    let b = get_or s (5 + i / 8) 0 in
    set s (5 + i / 8) (cond (eqb (b / 2 ^ (i % 8) % 2) 1) b (b + 2 ^ (i % 8)))

-- bytes behind those of a sheet
abbrev pub grown : Draft → ℕ → ℕ → ℕ → List ℕ → Draft
grown s count instructions stage b = record { bytes = s.bytes ++ b; count = count; instructions = instructions; stage = stage }

-- whether a sheet with so many constants takes an instruction's bytes
abbrev pub is_got : Read Instruction → Bool
is_got (got i) = true
is_got (refused n) = false

-- one line more: real places first, then constants, at most 251, then instructions, at most 612: the one behind them is refused whatever it
-- is
abbrev pub with_place : Draft → Read Loc → Read Draft
with_place s (got p) = and_then (bit_of p) (λ i. got (record { bytes = marked s.bytes i; count = s.count; instructions = s.instructions; stage = 1 }))
with_place s (refused n) = refused 3

unfoldable pub with_line : Draft → LineKind → List ℕ → Read Draft
unfolding marked
with_line s mode b = refused 3
with_line s real b = refuse (ltb 1 s.stage) 3 (with_place s (place_at b 0))
with_line s constant_line b =
    refuse (ltb 2 s.stage) 3 (refuse (leb 251 s.count) 2 (got (grown s (suc s.count) s.instructions 2 b)))
with_line s instruction b =
    refuse (leb 612 s.instructions) 4
    (refuse (not (is_got (instruction_from s.count b))) 3 (got (grown s s.count (suc s.instructions) 3 b)))

-- the first line: the mode, no place real
abbrev pub opened : LineKind → List ℕ → Read Draft
opened mode b = got (record { bytes = b ++ replicate 64 0; count = 0; instructions = 0; stage = 1 })
opened real b = refused 1
opened constant_line b = refused 1
opened instruction b = refused 1

abbrev pub first_line : Read Reading → Read Draft
first_line (got r) = opened r.part r.bytes
first_line (refused n) = refused 1

-- a line by its words; one without words counts for nothing
unfoldable pub with_words : Draft → List (List ℕ) → Read Draft
unfolding line_of with_line
with_words s [] = got s
with_words s (w ∷ ws) =
    cond (eqb s.stage 0) (first_line (line_of (w ∷ ws))) (and_then (line_of (w ∷ ws)) (λ r. with_line s r.part r.bytes))

unfoldable pub stepped : Draft → List ℕ → Read Draft
unfolding uncommented words_of with_words
stepped s l = with_words s (words_of (uncommented l))

-- a sheet's bytes, or the number of the first line that is refused, and why (1: no mode, 2: sheet full, with 251 constants, 3: no
-- such line, 4: sheet too long)
pub data Assembled : Type 0 where
  accepted : List ℕ → Assembled
  refused_at : ℕ → ℕ → Assembled

-- line after line, of which the first has number n; where no mode was found, it is missed behind the last line
abbrev pub ended : ℕ → Draft → Assembled
ended n s = cond (eqb s.stage 0) (refused_at n 1) (accepted s.bytes)

abbrev pub after_line : ℕ → Read Draft → (Draft → Assembled) → Assembled
after_line n (got s) f = f s
after_line n (refused why) f = refused_at n why

unfoldable pub assembled_from : ℕ → Draft → List (List ℕ) → Assembled
unfolding stepped
assembled_from n s [] = ended n s
assembled_from n s (l ∷ ls) = after_line n (stepped s l) (λ s. assembled_from (suc n) s ls)

abbrev pub no_sheet : Draft
no_sheet = record { bytes = []; count = 0; instructions = 0; stage = 0 }

unfoldable pub assembled : List ℕ → Assembled
unfolding pieces unmarked assembled_from
assembled text = assembled_from 1 no_sheet (pieces 10 (unmarked text))

-- the sheet, or the line of its refusal
abbrev pub outcome : Assembled → List ℕ
outcome (accepted sheet) = sheet
outcome (refused_at n why) = refused_text n why

-- what the program `assemble` writes for a text, of which it takes at most 500,000 bytes
unfoldable pub written : List ℕ → List ℕ
unfolding assembled
written text = cond (ltb 500000 (length text)) long_text (outcome (assembled text))
