-- The words of a store, one a line.
use Rattle.std.specs.Prelude.{ℕ, zero, suc, ◌*◌, List, [], ◌++◌}
use Rattle.words.specs.Bytes.{word_at}
use Rattle.reports.specs.Lines.{word_line}

-- the lines of n words from i on
unfoldable pub word_lines : List ℕ → ℕ → ℕ → List ℕ
word_lines store zero i = []
word_lines store (suc n) i = word_line i (word_at store (8 * i)) ++ word_lines store n (suc i)

-- the whole text: "the 66 registers, then 256 pairs each of Stack, Mem, Param"
abbrev pub shown : List ℕ → List ℕ
shown store = word_lines store 1602 0
