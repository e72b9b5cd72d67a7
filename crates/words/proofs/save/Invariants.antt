-- What is stored with what is left to store is the bytes of all words.
use Rattle.std.proofs.Common.{◌≡◌, ◌*◌, drop}
use Rattle.std.proofs.lemmas.List.Edits.{sets}
use Rattle.words.specs.Bytes.{bytes_of}
use Rattle.words.proofs.save.Given as goal

abbrev pub invariant-loop-i : goal.invariant-loop-i
invariant-loop-i l = sets l.out (8 * l.i) (bytes_of (drop l.i l.table)) ≡ sets l.initial.out 0 (bytes_of l.table)
