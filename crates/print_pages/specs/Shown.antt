-- What the program prints for a listing and its constants, from a page on: at most 112 pages at a time. What it prints one after the other
-- is all pages (theorem `joined`).
use Rattle.std.specs.Prelude.{ℕ, ◌-◌, ◌%◌, not, cond, List, length, eqb}
use Rattle.words.specs.Bytes.{words_of}
use Rattle.player_machine.specs.Refusal.{Refusal}
use Rattle.text.specs.Text.{ascii}
use Rattle.reports.specs.Lines.{refusal_line}
use Rattle.pages.specs.Pages.{Row, pages_from, page_count}
use Rattle.pages.specs.Printed.{from_record0, rows_of, least}

-- a refusal, with its word; "an empty listing without constants is no page", and that is said; or the pages
abbrev pub shown_by : Refusal → ℕ → List Row → List ℕ
shown_by r first rows =
    cond (not (eqb r.number 0)) (refusal_line r.number r.index)
    (cond (eqb (page_count rows) 0) (ascii "no page\n") (pages_from first (least 112 (page_count rows - first)) rows))

-- constants that are no whole number of words are a wrong setup, 8
unfoldable pub shown : ℕ → List ℕ → List ℕ → List ℕ
unfolding words_of
shown first listing constants =
    cond (not (eqb (length constants % 8) 0)) (refusal_line 8 0)
    (shown_by (from_record0 listing (words_of constants)) first (rows_of listing (words_of constants)))
