-- What the program prints for a sheet, and the bytes that it has for its files.
use Rattle.std.specs.Prelude.{ℕ, suc, ◌≡◌, cond, List, [], ◌∷◌, ◌++◌, eqb, take, drop}
use Rattle.text.specs.Text.{ascii, space, register, line}
use Rattle.text.specs.Puts.{Puts}
use Rattle.words.specs.Bytes.{word_at}
use Rattle.interface.specs.Calls.{LowerCall}
use Rattle.reports.specs.Lines.{lowered_line}

-- the line for an answer of lowering: its number, index, bytes written and count of constants, eight bytes each
abbrev pub answer_line : List ℕ → List ℕ
answer_line answer = lowered_line (word_at answer 0) (word_at answer 8) (word_at answer 16) (word_at answer 24)

-- the names of the registers whose marks are set, from register i on, as a listing's text has them, each after a space
unfoldable pub marked_names : ℕ → List ℕ → List ℕ
unfolding register
marked_names i [] = []
marked_names i (m ∷ marks) = cond (eqb m 0) [] (space (register i)) ++ marked_names (suc i) marks

-- the names, or `nothing` where there is none
abbrev pub or_nothing : List ℕ → List ℕ
or_nothing [] = ascii " nothing"
or_nothing (b ∷ names) = b ∷ names

-- the line of the registers drawn on before being filled
unfoldable pub drawn_line : List ℕ → List ℕ
unfolding ascii marked_names
drawn_line marks = line (ascii "draws on" ++ or_nothing (marked_names 0 marks))

-- what is printed for an answer: its line, and the line of the registers drawn on, by the 66 marks from byte 194 on; of a wrong setup, 8,
-- its line alone
unfoldable pub answer_text : List ℕ → List ℕ
unfolding drawn_line
answer_text answer =
    cond (eqb (word_at answer 0) 8) (answer_line answer) (answer_line answer ++ drawn_line (take 66 (drop 194 answer)))

-- the lent bytes are what the call leaves, and the text is its answer's
pub record Lowers (call : LowerCall) (o listing constants origins answer o' : List ℕ) (n : ℕ) : Type 0 where
  pub of_listing : listing ≡ call.listing
  pub of_constants : constants ≡ call.constants
  pub of_origins : origins ≡ call.origins
  pub of_answer : answer ≡ call.answer
  pub prints : Puts o 0 (answer_text call.answer) o' n
