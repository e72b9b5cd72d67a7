-- The rows that stand from a line on, where the records behind it begin at a position of the listing.
use Rattle.std.specs.Prelude.{ℕ, suc, ◌-◌, ◌≡◌, List, ◌++◌, length, drop}
use Rattle.records.specs.Record.{records}
use Rattle.text.specs.Line.{Prints}
use Rattle.pages.specs.declared.columns.LineAt.{LineAt}
use Rattle.pages.specs.Pages.{Row, constant_row, record_row, numbered, lines}

abbrev pub rows_at : List ℕ → List ℕ → ℕ → ℕ → List Row
rows_at constants listing i from =
    numbered constant_row i (drop i constants)
    ++ numbered record_row (i - length constants) (records (length constants) (drop from listing)).items

-- the line of the first of them, a blank one where there is none, and the position of the records behind it
pub record FirstLine (constants listing : List ℕ) (i from : ℕ) (r : LineAt) : Type 0 where
  pub text : List ℕ
  pub prints : Prints text r.line
  pub same : (n : ℕ) → lines (suc n) (rows_at constants listing i from) ≡ text ++ lines n (rows_at constants listing (suc i) r.next)
