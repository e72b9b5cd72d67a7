-- Text put into lent bytes, from a position on.
use Rattle.std.specs.Prelude.{ℕ, ◌+◌, ◌≤◌, ◌≡◌, List, length, take}
use Rattle.std.proofs.lemmas.List.Edits.{sets}
use Rattle.text.specs.declared.line.Line.{Line}

-- the bytes that a line counts as its own
abbrev pub line_text : Line → List ℕ
line_text line = take line.len line.bytes

-- the text stands from `at` on, whole, and ends at r; every other byte is as it was
pub record Puts (o : List ℕ) (at : ℕ) (text o' : List ℕ) (r : ℕ) : Type 0 where
  pub same : o' ≡ sets o at text
  pub ends : r ≡ at + length text
  pub fits : r ≤ length o'
