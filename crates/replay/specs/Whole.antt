-- Whole cases: of at least some bytes, with a count at 4 and one at 8 that are at most so much, and an end. Assumes nothing.
use Rattle.std.specs.Prelude.{ℕ, ◌≤◌, Bool, ◌||◌, List, length, nat_lt}
use Rattle.replay.specs.Numbers.{u32_at}

-- the bytes begin with no whole case
unfoldable pub cut_at : ℕ → ℕ → ℕ → ℕ → List ℕ → Bool
cut_at head first second end s = nat_lt (length s) head || (nat_lt first (u32_at s 4) || (nat_lt second (u32_at s 8) || nat_lt (length s) end))

-- what a whole case has
pub record WholeAt (head first second end : ℕ) (s : List ℕ) : Type 0 where
  pub long : head ≤ length s
  pub count : u32_at s 4 ≤ first
  pub other : u32_at s 8 ≤ second
  pub rest : end ≤ length s
