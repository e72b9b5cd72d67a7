-- With the lines that are left the whole text stands, and there is room for them.
use Rattle.std.proofs.Common.{◌+◌, ◌-◌, ◌*◌, ◌≤◌, length}
use Rattle.text.proofs.Putting.{Owes}
use Rattle.show_store.specs.Shown.{shown, word_lines}
use Rattle.show_store.proofs.put_words.Given as goal

abbrev pub invariant-loop-i : goal.invariant-loop-i
invariant-loop-i l =
    (l.at + 80 * (1602 - l.i) ≤ length l.out) × Owes l.initial.out 0 (shown l.store) l.out l.at (word_lines l.store (1602 - l.i) l.i)
