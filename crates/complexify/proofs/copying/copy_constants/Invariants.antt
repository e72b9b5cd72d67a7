-- What is stored with what is left to store is all that is to be stored.
use Rattle.std.proofs.Common.{◌≡◌, ◌+◌, drop}
use lib.Seq.{sets}
use Rattle.sheet.specs.Setup.{constants_of}
use Rattle.complexify.proofs.copying.copy_constants.Given as goal

abbrev pub invariant-loop-i : goal.invariant-loop-i
invariant-loop-i l = sets l.constants (0 + l.i) (drop l.i (constants_of l.sheet l.count)) ≡ sets l.initial.constants 0 (constants_of l.sheet l.count)
