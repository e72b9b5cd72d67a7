-- What is stored with what is left to store are all flags.
use Rattle.std.proofs.Common.{◌≡◌, ◌+◌, map, drop}
use lib.Seq.{sets}
use Rattle.mir.specs.Encode.{flag_byte}
use Rattle.lowering.proofs.bytes.put_flags.Given as goal

abbrev pub invariant-loop-i : goal.invariant-loop-i
invariant-loop-i l = sets l.out (l.at + l.i) (drop l.i (map flag_byte l.flags)) ≡ sets l.initial.out l.at (map flag_byte l.flags)
