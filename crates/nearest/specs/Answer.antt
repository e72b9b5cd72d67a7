-- The entry's answer in document 02's numbers.
use Rattle.std.specs.Prelude.{ℕ, Option, None, Some, Result, Ok, Err}
use Rattle.nearest.specs.Nearest.{Values}
use Rattle.nearest.specs.declared.NoPoints.{NoPoints}

-- 02's values for a nearest point, and for none
abbrev pub values_of : Option ℕ → Values
values_of (Some i) = record { number = 0; found = 1; index = i }
values_of None = record { number = 0; found = 0; index = 0 }

-- 02's number and values for each answer
abbrev pub as_values : Result (Option ℕ) NoPoints → Values
as_values (Ok found) = values_of found
as_values (Err refused) = record { number = 13; found = 0; index = 0 }
