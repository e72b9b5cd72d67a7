-- `text::fields::Line::register` meets its contract.
use borrow.Author.Tests.{eq-eqb, ne_eqb}
use Rattle.text.specs.Line.{◌▹◌}
use Rattle.text.specs.Text.{ascii, register}
use Rattle.text.proofs.line.Line.register.Goals as goal

pub returns-then-r-eq64 : goal.returns-then-r-eq64
unfolding ascii register
returns-then-r-eq64 c = simp (eq-eqb _ _ c.if-r-eq64.true) c.text.ensures

pub returns-then-r-eq65 : goal.returns-then-r-eq65
unfolding ascii register
returns-then-r-eq65 c = simp (ne_eqb _ _ c.if-r-eq64.false, eq-eqb _ _ c.if-r-eq65.true) c.text-then-r-eq65.ensures

pub returns : goal.returns
unfolding ascii register
returns c = simp (ne_eqb _ _ c.if-r-eq64.false, ne_eqb _ _ c.if-r-eq65.false) (c.text-2.ensures ▹ c.decimal.ensures)
