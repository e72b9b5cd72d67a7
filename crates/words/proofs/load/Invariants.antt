-- What is stored with what is left to store is all words.
use Rattle.std.proofs.Common.{◌≡◌, drop, map}
use Rattle.std.proofs.lemmas.List.Edits.{sets}
use Rattle.std.specs.Int.{w64, from_le_bytes}
use Rattle.words.proofs.load.Given as goal

abbrev pub invariant-loop-i : goal.invariant-loop-i
invariant-loop-i l =
    sets l.table l.i (drop l.i (map (from_le_bytes w64) l.eights)) ≡ sets l.initial.table 0 (map (from_le_bytes w64) l.eights)
