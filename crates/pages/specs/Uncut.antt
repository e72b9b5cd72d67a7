-- "No field is ever cut, and this is shown for every accepted listing and every table of up to 256 constants" (theorem `uncut`).
use Rattle.std.specs.Prelude.{ℕ, ◌+◌, ◌*◌, ◌≤◌, ◌<◌, ◌≡◌, List, [], ◌∷◌, ◌++◌, cond, eqb, length, take, drop, get_or}
use Rattle.text.specs.Text.{decimal}
use Rattle.pages.specs.Pages.{right, left, Row, page_count, pages_text}
use Rattle.pages.specs.Printed.{from_record0, rows_of}

-- a text without the spaces before it, and without those behind it
abbrev pub unindented : List ℕ → List ℕ
unindented [] = []
unindented (b ∷ l) = cond (eqb b 32) (unindented l) (b ∷ l)

abbrev pub onto : ℕ → List ℕ → List ℕ
onto b [] = cond (eqb b 32) [] (b ∷ [])
onto b (c ∷ l) = b ∷ c ∷ l

abbrev pub trimmed : List ℕ → List ℕ
trimmed [] = []
trimmed (b ∷ l) = onto b (trimmed l)

-- a line of 72 characters and a line feed, in which an index, a name and operands stand whole: no field is longer than its columns, these
-- hold the field and spaces alone, and without the spaces they are the field
pub record Whole (row : Row) (line : List ℕ) : Type 0 where
  pub long : length line ≡ 73
  pub index : (length (decimal row.index) ≤ 5) × (take 5 line ≡ right 5 (decimal row.index))
      × (unindented (take 5 line) ≡ decimal row.index)
  pub name : (length row.name ≤ 16) × (take 16 (drop 6 line) ≡ left 16 row.name) × (trimmed (take 16 (drop 6 line)) ≡ row.name)
  pub operands : (length row.operands ≤ 49) × (take 49 (drop 23 line) ≡ left 49 row.operands)
      × (trimmed (take 49 (drop 23 line)) ≡ row.operands)

-- each row of a list
abbrev pub Each : (Row → Type 0) → List Row → Type 0
Each P [] = Unit {0}
Each P (row ∷ rows) = P row × Each P rows

-- of any way to write a row as a line: of every listing, which is bytes, that the player accepts from record 0, with its table of constants,
-- each row stands whole in its line, and every page has 60 lines of 73 bytes
abbrev pub UncutLaw : (Row → List ℕ) → Type 0
UncutLaw line =
    (listing constants : List ℕ) → ((i : ℕ) → get_or listing i 0 < 256) → (from_record0 listing constants).number ≡ 0
    → Each (λ row. Whole row (line row)) (rows_of listing constants)
    × (length (pages_text (rows_of listing constants)) ≡ 60 * 73 * page_count (rows_of listing constants))

-- of any way to lay out so many pages from one on: those of two parts, one behind the other, are those that are laid out at once
abbrev pub Joined : (ℕ → ℕ → List Row → List ℕ) → Type 0
Joined pages = (first m n : ℕ) (rows : List Row) → pages first (m + n) rows ≡ pages first m rows ++ pages (first + m) n rows
