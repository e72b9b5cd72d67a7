-- Numbers of four bytes, the lowest first; a byte past the end is 0. Assumes nothing.
use Rattle.std.specs.Prelude.{ℕ, List, take, drop}
use Rattle.words.specs.Bytes.{number}

-- the number whose lowest byte stands at i
unfoldable pub u32_at : List ℕ → ℕ → ℕ
unfolding number
u32_at s i = number (take 4 (drop i s))
