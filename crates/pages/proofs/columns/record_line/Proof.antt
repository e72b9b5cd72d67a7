-- `pages::columns::record_line` meets its contract.
use borrow.Author.Rules.{rules}
use native.Mathlib.Omega.{arith}
use Rattle.pages.specs.Pages.{record_row}
use Rattle.pages.proofs.Aligned.{row-line, record_fits}
use Rattle.pages.proofs.columns.record_line.Statement.{statement}
use Rattle.pages.proofs.columns.record_line.Tie as tie

pub record_line_spec : {M : Type 1} → statement M
unfolding record_row
record_line_spec =
    tie.close
    (tie.spec
    (λ c κs. search rules) (λ c κs. search rules) (λ c κs. search rules) (λ c κs. search rules) (λ c κs. search rules)
    (λ c.
    let a = c.args in
    row-line (record_row a.index a.record) (record_fits a.index a.record (omega arith) c.record_operands.ensures.1)
    c.index_line.ensures c.record_name.ensures
    c.fill_to-line.ensures c.record_operands.ensures.0 c.fill_to.ensures))
