-- What is stored with what is left to store is the bytes of all numbers.
use Rattle.std.proofs.Common.{◌≡◌, ◌*◌, drop}
use lib.Seq.{sets}
use Rattle.interface.specs.Calls.{pairs_of}
use Rattle.interface.proofs.put_numbers.Given as goal

abbrev pub invariant-loop-i : goal.invariant-loop-i
invariant-loop-i l = sets l.out (2 * l.i) (pairs_of (drop l.i l.numbers)) ≡ sets l.initial.out 0 (pairs_of l.numbers)
