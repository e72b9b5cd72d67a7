-- How many bytes of a list there are from its start.
use Rattle.std.specs.Prelude.{◌≡◌, ◌≤◌, ℕ, List, length, take, Result, MatchResult}
use Rattle.files.specs.declared.CutShort.{CutShort}

-- the first n bytes are n
abbrev pub IsPrefixLen : ℕ → List ℕ → Type 0
IsPrefixLen n xs = (n ≤ length xs) × (n ≡ length (take n xs))

-- so many bytes were read, or had come where a read failed
abbrev pub IsReadLen : Result ℕ CutShort → List ℕ → Type 0
IsReadLen r xs = MatchResult r (λ n. IsPrefixLen n xs) (λ e. IsPrefixLen e.len xs)
