-- What inner contracts say of numbers of two words and of sticky digits. Assumes nothing.
use Rattle.std.specs.Prelude.{◌≡◌, ◌⊎◌, ℕ, ◌+◌, ◌*◌, ◌%◌, ◌^◌, ◌≤◌, ◌<◌}

-- w has a sticky digit for x in units of u: w units are x, or w is odd and x lies strictly between the even numbers of units around it
abbrev pub Near : ℕ → ℕ → ℕ → Type 0
Near x w u = (x ≡ w * u) ⊎ ((w % 2 ≡ 1) × (w * u < x + u) × (x < w * u + u))

-- a number of two words
abbrev pub both : ℕ → ℕ → ℕ
both hi lo = hi * 2 ^ 64 + lo

-- of 126 or 127 binary digits, of which the lowest 21 are 0
pub record Scaled (v : ℕ) : Type 0 where
  pub lo : 2 ^ 125 ≤ v
  pub hi : v < 2 ^ 127
  pub whole : v % 2 ^ 21 ≡ 0
