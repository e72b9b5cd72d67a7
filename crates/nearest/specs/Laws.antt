-- Document 02's sentences on the nearest point (g and j), said of the answer and not of the search that finds it (theorem `nearest_point`).
-- Assumes nothing.
use Rattle.std.specs.Prelude.{ℕ, ◌+◌, ◌*◌, ◌/◌, ◌%◌, ◌≤◌, ◌<◌, ◌≡◌, true, false, List, length, get_or, Float}
use Rattle.std.specs.Float.Ieee.{is_nan, lt}
use Rattle.float.specs.Word.{value}
use Rattle.nearest.specs.Nearest.{distance, Values}

-- the distance of point k from the answer: "each two f64 words"
abbrev pub far : ℕ → ℕ → List ℕ → ℕ → Float
far re im points k = value (distance re im (get_or points (2 * k) 0) (get_or points (2 * k + 1) 0))

-- j: "of equal distances the latest is to be chosen": point k is preferred to point i where it stands later
abbrev pub Preferred : ℕ → ℕ → Type 0
Preferred k i = i < k

-- of n points with these distances, i is "the index of the point with the smallest"
pub record IsNearest (distances : ℕ → Float) (n i : ℕ) : Type 0 where
  pub among : i < n
  -- "Points whose distance is NaN are passed over"
  pub number : is_nan (distances i) ≡ false
  -- no point's is smaller
  pub smallest : (k : ℕ) → k < n → lt (distances k) (distances i) ≡ false
  -- that of every point which would be preferred is larger, or a NaN
  pub preferred : (k : ℕ) → k < n → Preferred k i → is_nan (distances k) ≡ false → lt (distances i) (distances k) ≡ true

-- "The index of the point .. comes back"; "if none is left the answer says none"
pub data Answers (distances : ℕ → Float) (n : ℕ) : Values → Type 0 where
  found : (i : ℕ) → IsNearest distances n i → Answers distances n (record { number = 0; found = 1; index = i })
  nothing : ((k : ℕ) → k < n → is_nan (distances k) ≡ true) → Answers distances n (record { number = 0; found = 0; index = 0 })

-- so is the answer for every row of points that is not turned away
abbrev pub NearestLaw : (ℕ → ℕ → List ℕ → Values) → Type 0
NearestLaw nearest =
    (re im : ℕ) (points : List ℕ) → length points % 2 ≡ 0 → length points ≤ 1024
    → Answers (far re im points) (length points / 2) (nearest re im points)
