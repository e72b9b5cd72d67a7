-- What laying a listing out on pages gives back (document 02, i).
use Rattle.std.specs.Prelude.{ℕ, ◌-◌, not, cond, List, ◌++◌, length, drop, ltb, eqb}
use Rattle.records.specs.Record.{records}
use Rattle.player_machine.specs.Refusal.{Refusal, refusal}
use Rattle.pages.specs.Pages.{Row, rows, pages_from, page_count, pages_text}

-- a number, an index, the count of pages, and the page slice after it
pub record Printed : Type 0 where
  pub number : ℕ
  pub index : ℕ
  pub pages : ℕ
  pub out : List ℕ

-- "nothing is written"
abbrev pub refused : ℕ → ℕ → List ℕ → Printed
refused number index out = record { number = number; index = index; pages = 0; out = out }

-- "A listing that the player would refuse from record 0 gets the player's refusal, and nothing is written." "If the lent page slice is too
-- short, which is tested last, nothing is written and the answer is 7 with index 0. Otherwise the count of pages comes back, and later
-- bytes stay as lent." The index is then the count of records, as on every acceptance.
abbrev pub printed_by : Refusal → ℕ → List ℕ → List ℕ → Printed
printed_by r count text out =
    cond (not (eqb r.number 0)) (refused r.number r.index out)
    (cond (ltb (length out) (length text)) (refused 7 0 out)
    (record { number = 0; index = r.index; pages = count; out = text ++ drop (length text) out }))

-- by the player's refusal from record 0, over a store of the right length
abbrev pub from_record0 : List ℕ → List ℕ → Refusal
from_record0 listing constants = refusal listing (length constants) 0 1602

abbrev pub rows_of : List ℕ → List ℕ → List Row
rows_of listing constants = rows constants (records (length constants) listing).items

-- all pages
unfoldable pub printed : List ℕ → List ℕ → List ℕ → Printed
printed listing constants out =
    printed_by (from_record0 listing constants) (page_count (rows_of listing constants)) (pages_text (rows_of listing constants)) out

-- the lesser of two numbers
abbrev pub least : ℕ → ℕ → ℕ
least a b = cond (ltb a b) a b

-- a part of them: at most so many, from a page on; of all pages the count comes back
unfoldable pub printed_part : ℕ → ℕ → List ℕ → List ℕ → List ℕ → Printed
printed_part first most listing constants out =
    printed_by (from_record0 listing constants) (page_count (rows_of listing constants))
    (pages_from first (least most (page_count (rows_of listing constants) - first)) (rows_of listing constants))
    out
