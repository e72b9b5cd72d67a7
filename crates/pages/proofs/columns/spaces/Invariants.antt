-- The spaces that are left, behind those that are there, are all spaces.
use Rattle.std.proofs.Common.{◌≡◌, ◌-◌}
use Rattle.text.specs.Line.{add_all}
use Rattle.pages.specs.Pages.{spaces}
use Rattle.pages.proofs.columns.spaces.Given as goal

abbrev pub invariant-loop-i : goal.invariant-loop-i
invariant-loop-i l = add_all l.line (spaces (l.n - l._i)) ≡ add_all l.initial.line (spaces l.n)
