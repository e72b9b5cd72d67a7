-- The words that are left, put behind what the line has, are all words put.
use Rattle.std.proofs.Common.{◌≡◌, map, drop}
use Rattle.assembly.specs.Assembled.{words_of}
use Rattle.assembly.specs.Reading.{sort_of, words_put}
use Rattle.assembly.proofs.reading.put_words.Given as goal

abbrev pub invariant-loop-sort : goal.invariant-loop-sort
invariant-loop-sort l =
    words_put (map sort_of (drop l.sort-index l.sorts)) l.line (words_of (drop l.at l.l)) ≡ words_put (map sort_of l.sorts) l.fn.start (words_of (drop l.from l.l))
