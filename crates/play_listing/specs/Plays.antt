-- What the program prints for a play, and the bytes that it has for its file.
use Rattle.std.specs.Prelude.{ℕ, ◌≡◌, List}
use Rattle.text.specs.declared.line.Line.{Line}
use Rattle.text.specs.Line.{Prints}
use Rattle.words.specs.Bytes.{word_at}
use Rattle.interface.specs.Calls.{PlayCall}
use Rattle.reports.specs.Lines.{played_line}

-- the line for an answer of playing: its number, index and records played, eight bytes each
abbrev pub answer_line : List ℕ → List ℕ
answer_line answer = played_line (word_at answer 0) (word_at answer 8) (word_at answer 16)

-- the lent bytes are what the call leaves, and the line is its answer's
pub record Plays (call : PlayCall) (store answer : List ℕ) (line : Line) : Type 0 where
  pub of_store : store ≡ call.store
  pub of_answer : answer ≡ call.answer
  pub prints : Prints (answer_line call.answer) line
