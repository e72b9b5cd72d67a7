-- A listing and its constants on paper (document 02, i): "pages of 60 lines, each 72 characters and a line feed".
use Rattle.std.specs.Prelude.{ℕ, zero, suc, ◌+◌, ◌-◌, ◌*◌, ◌/◌, List, [], ◌∷◌, ◌++◌, length, drop, replicate}
use Rattle.mir.specs.declared.records.Record.{Record}
use Rattle.text.specs.Text.{ascii, decimal_in, decimal, hex_in, hex, space, line, record_name, record_operands}

abbrev pub spaces : ℕ → List ℕ
spaces n = replicate n 32

-- "right-aligned in" and "left-aligned in" so many columns; a longer text is not cut: it makes its line longer
abbrev pub right : ℕ → List ℕ → List ℕ
right n text = spaces (n - length text) ++ text

abbrev pub left : ℕ → List ℕ → List ℕ
left n text = text ++ spaces (n - length text)

-- what a line says
pub record Row : Type 0 where
  pub index : ℕ
  pub name : List ℕ
  pub operands : List ℕ

-- "Columns: index right-aligned in 5, a space, the operation's name left-aligned in 16, a space, operands [..] left-aligned in 49."
unfoldable pub row_line : Row → List ℕ
unfolding decimal_in
row_line row = line (right 5 (decimal row.index) ++ space (left 16 row.name) ++ space (left 49 row.operands))

unfoldable pub blank_line : List ℕ
blank_line = line (spaces 72)

-- "each on a line with its own index, 16 hexadecimal digits in the operand columns, with `Constant` as the name"
unfoldable pub constant_row : ℕ → ℕ → Row
unfolding ascii hex_in
constant_row index word = record { index = index; name = ascii "Constant"; operands = hex word }

-- "the operation's name", "operands as the `listing` program prints them"
unfoldable pub record_row : ℕ → Record → Row
unfolding record_name record_operands
record_row index r = record { index = index; name = record_name r; operands = record_operands r }

-- each with its index, from one on
abbrev pub numbered : {A : Type 0} → (ℕ → A → Row) → ℕ → List A → List Row
numbered row index [] = []
numbered row index (a ∷ l) = row index a ∷ numbered row (suc index) l

-- "Bits of constants come first"
abbrev pub rows : List ℕ → List Record → List Row
rows constants records = numbered constant_row 0 constants ++ numbered record_row 0 records

-- so many lines: those of the rows, and blank ones behind them
abbrev pub lines : ℕ → List Row → List ℕ
lines zero l = []
lines (suc n) [] = blank_line ++ lines n []
lines (suc n) (row ∷ l) = row_line row ++ lines n l

-- so many pages, from one on
abbrev pub pages_from : ℕ → ℕ → List Row → List ℕ
pages_from first n l = lines (60 * n) (drop (60 * first) l)

-- 60 lines each, the last filled: "The last page is filled with blank lines; an empty listing without constants is no page."
abbrev pub page_count : List Row → ℕ
page_count l = (length l + 59) / 60

abbrev pub pages_text : List Row → List ℕ
pages_text l = pages_from 0 (page_count l) l
