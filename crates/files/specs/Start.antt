-- A record's index, from the decimal digits of an argument.
use Rattle.std.specs.Prelude.{ℕ, ◌+◌, ◌-◌, ◌*◌, cond, List, [], ◌∷◌, length, ltb, eqb, Option, None, Some}

-- digits after the number that those before them spell; a number of 2^64 or more is not taken
unfoldable pub start_from : ℕ → List ℕ → Option ℕ
start_from n [] = Some n
start_from n (b ∷ s) =
    cond (ltb b 48) None
    (cond (ltb 57 b) None
    (cond (ltb 18446744073709551615 (10 * n + (b - 48))) None (start_from (10 * n + (b - 48)) s)))

-- at least one digit
unfoldable pub start_of : List ℕ → Option ℕ
unfolding start_from
start_of s = cond (eqb (length s) 0) None (start_from 0 s)
