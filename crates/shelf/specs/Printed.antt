-- What the program prints for a sheet: a line for each figure, or the refusal as `listing` prints it.
use Rattle.std.specs.Prelude.{ℕ, cond, List, ◌++◌, eqb}
use Rattle.text.specs.Text.{ascii, decimal_in, decimal, space, line, refused_line}
use Rattle.figures.specs.Shelf.{shelf}

unfoldable pub figures_text : ℕ → ℕ → ℕ → List ℕ
unfolding ascii decimal_in
figures_text bytes constants records =
    line (ascii "bytes" ++ space (decimal bytes))
    ++ line (ascii "constants" ++ space (decimal constants))
    ++ line (ascii "records" ++ space (decimal records))

unfoldable pub printed : List ℕ → List ℕ
unfolding figures_text
printed sheet =
    let f = shelf sheet in
    cond (eqb f.number 0) (figures_text f.bytes f.constants f.records) (refused_line f.number f.index)
