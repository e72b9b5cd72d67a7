-- What the program prints for a look.
use Rattle.std.specs.Prelude.{ℕ, ◌/◌, cond, List, [], ◌++◌, length, replicate, eqb, ltb}
use Rattle.std.proofs.Math.Option.{Option, none, some}
use Rattle.std.proofs.Math.ListN.{get_elem?}
use Rattle.mir.specs.declared.records.Record.{Record}
use Rattle.records.specs.Record.{records}
use Rattle.text.specs.Text.{ascii, decimal_in, decimal, space, line, record_line}
use Rattle.words.specs.Bytes.{word_at}
use Rattle.reports.specs.Lines.{refusal_line, word_line}
use Rattle.look.specs.Call.{look_call}

-- the record, as the program `listing` prints it; at the end there is none
abbrev pub record_part : Option Record → List ℕ
record_part none = []
record_part (some r) = record_line r

-- the word with number k of n that are shown, by its name and its bits
abbrev pub word_part : ℕ → ℕ → ℕ → ℕ → List ℕ
word_part n k index bits = cond (ltb k n) (word_line index bits) []

-- `next` and the record that follows, `end` where that is the record count
unfoldable pub next_line : ℕ → ℕ → List ℕ
unfolding ascii decimal_in
next_line follows count = cond (eqb follows count) (ascii "end\n") (line (ascii "next" ++ space (decimal follows)))

-- for an answer of looking at record i, with so many constants: its numbers, eight bytes each, in the order of `Call`
unfoldable pub look_text : List ℕ → ℕ → ℕ → List ℕ → List ℕ
unfolding next_line
look_text listing constants i a =
    cond (eqb (word_at a 0) 0)
    (record_part (get_elem? (records constants listing).items i)
    ++ (word_part (word_at a 24) 0 (word_at a 32) (word_at a 40)
    ++ (word_part (word_at a 24) 1 (word_at a 48) (word_at a 56) ++ next_line (word_at a 16) (word_at a 8))))
    (refusal_line (word_at a 0) (word_at a 8))

-- the whole text, of the bytes of three files
abbrev pub printed : List ℕ → List ℕ → List ℕ → ℕ → List ℕ
printed listing constants store i =
    look_text listing (length constants / 8) i (look_call listing constants store i (replicate 64 0)).answer
