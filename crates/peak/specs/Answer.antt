-- The entry's answer in document 02's number.
use Rattle.std.specs.Prelude.{ℕ, ⊤, Result, Ok, Err}
use Rattle.peak.specs.declared.TurnedAway.{TurnedAway}

-- "12 for w outside its range, ..", else 0
abbrev pub number_of : Result ⊤ TurnedAway → ℕ
number_of (Ok done) = 0
number_of (Err away) = 12
