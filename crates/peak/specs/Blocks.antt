-- What the code keeps of the words before a block of w positions. Only inner contracts cite it.
use Rattle.std.specs.Prelude.{ℕ, ◌+◌, ◌-◌, ◌<◌, ◌≡◌, List, get_or}
use Rattle.std.proofs.Math.Seq.{slice}
use Rattle.peak.specs.Peak.{largest}

-- at j: the largest of those words of the window that ends at s + j which stand before s, where the block starts
unfoldable pub Tails : List ℕ → ℕ → ℕ → List ℕ → Type 0
Tails run w s tail = (j : ℕ) → j < w → get_or tail j 0 ≡ largest (slice (s + j + 1 - w) s run)
