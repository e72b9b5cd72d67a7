-- Tables of names in the code.
use Rattle.std.specs.Prelude.{ℕ, List, [], map, slice_index_or}
use Rattle.std.specs.Borrow.{Bor}

-- the name of a number, from 0; past the last, none
abbrev pub name_at : List (Bor (List ℕ)) → ℕ → List ℕ
name_at names n = slice_index_or (map (λ name. name.now) names) n []
