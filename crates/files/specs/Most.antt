-- How many bytes are printed.
use Rattle.std.specs.Prelude.{ℕ, cond, ltb}

-- n, or as many as there are
abbrev pub at_most : ℕ → ℕ → ℕ
at_most n long = cond (ltb n long) n long
