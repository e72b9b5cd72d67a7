-- The answer of the code for a look.
use Rattle.std.specs.Prelude.{ℕ, List, [], ◌∷◌, length, drop}
use Rattle.player_machine.specs.Machine.{Write, ◌≔◌}
use Rattle.player_machine.specs.Look.{Look}
use Rattle.look.specs.declared.LookAnswer.{LookAnswer}

-- index and bits of the first of some words; 0 where there is none
abbrev pub index_of : List Write → ℕ
index_of [] = 0
index_of (i ≔ v ∷ ws) = i

abbrev pub bits_of : List Write → ℕ
bits_of [] = 0
bits_of (i ≔ v ∷ ws) = v

-- the three numbers, how many words, and index and bits of the first and of the second
abbrev pub told : Look → LookAnswer
told l =
    record {
      number = l.number;
      index = l.index;
      follows = l.follows;
      count = length l.words;
      index1 = index_of l.words;
      bits1 = bits_of l.words;
      index2 = index_of (drop 1 l.words);
      bits2 = bits_of (drop 1 l.words);
    }
