-- The code's values, as the machine's definitions have them.
use Rattle.player_machine.specs.Machine.{Store}
use Rattle.player_machine.specs.Answer as Machine
use Rattle.player.specs.declared.PlayAnswer.{PlayAnswer}

-- the answer, and the store at exit
abbrev pub whole : PlayAnswer → Store → Machine.Answer
whole a σ = record { number = a.number; index = a.index; played = a.played; store = σ }
