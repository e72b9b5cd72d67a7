-- `reports::word_name` meets its contract.
use borrow.Author.Tests.{lt-ltb, le-ltb}
use mathlib.Core.Path.{refl}
use Rattle.text.specs.Line.{◌▹◌}
use Rattle.text.specs.Text.{ascii}
use Rattle.text.proofs.Tables.{by_name}
use Rattle.reports.specs.Lines.{class_names, half_names, word_name}
use Rattle.reports.proofs.word_name.Goals as goal

pub returns-then-index-lt66 : goal.returns-then-index-lt66
unfolding ascii word_name
returns-then-index-lt66 c = simp (lt-ltb _ _ c.if-index-lt66.true) c.register.ensures

pub returns : goal.returns
unfolding ascii word_name
returns c = simp (le-ltb _ _ c.if-index-lt66.false) (by_name class_names refl c.name_in.ensures ▹ c.number.ensures ▹ (c.byte.ensures ▹ by_name half_names refl c.name_in-2.ensures))
