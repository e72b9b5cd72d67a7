-- `pages::columns::constant_line` meets its contract.
use native.Mathlib.Omega.{arith}
use Rattle.text.specs.Text.{ascii}
use Rattle.pages.specs.Pages.{constant_row}
use Rattle.pages.proofs.Aligned.{row-line, constant_fits}
use Rattle.pages.proofs.columns.constant_line.Goals as goal

pub returns : goal.returns
unfolding ascii constant_row
returns c = let a = c.args in
    row-line (constant_row a.index a.word) (constant_fits a.index a.word (omega arith))
    c.index_line.ensures c.text.ensures
    c.fill_to-line.ensures c.hex.ensures c.fill_to.ensures
