-- What is put, with the lines that are left, are all lines.
use Rattle.text.proofs.Putting.{Owes}
use Rattle.pages.specs.Pages.{lines}
use Rattle.pages.specs.Standing.{rows_at}
use Rattle.pages.proofs.Standing.{left}
use Rattle.pages.proofs.columns.put_lines.Given as goal

abbrev pub invariant-loop-k : goal.invariant-loop-k
invariant-loop-k l =
    Owes l.initial.out 0 (lines l.n (rows_at l.constants l.listing l.first l.start)) l.out l.at (left l.constants l.listing l.first l.start l.n l.k l.from)
