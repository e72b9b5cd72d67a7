-- Document 02's sentences on the running peak (e), said of the word at a position and not of how it is found (theorem `running_peak`).
-- Assumes nothing.
use Rattle.std.specs.Prelude.{ℕ, ◌+◌, ◌≤◌, ◌<◌, ◌≡◌, true, false, List, length, get_or, Float}
use Rattle.std.specs.Float.Ieee.{is_nan, lt}
use Rattle.float.specs.Word.{value}

-- position j is in "the window that ends" at i: one of the last w; "early windows are shorter"
abbrev pub InWindow : ℕ → ℕ → ℕ → Type 0
InWindow w i j = (j ≤ i) × (i < j + w)

-- the value at a position of the run
abbrev pub reading : List ℕ → ℕ → Float
reading run j = value (get_or run j 0)

-- j is the position of "the largest in the window"
pub record IsPeak (run : List ℕ) (w i j : ℕ) : Type 0 where
  pub within : InWindow w i j
  -- "A NaN is passed over"
  pub number : is_nan (reading run j) ≡ false
  -- no word of the window is above it
  pub largest : (k : ℕ) → InWindow w i k → lt (reading run j) (reading run k) ≡ false
  -- "the earlier bits are returned": every earlier word of the window is below it, or a NaN
  pub earliest : (k : ℕ) → InWindow w i k → k < j → is_nan (reading run k) ≡ false → lt (reading run k) (reading run j) ≡ true

-- the word that is given at position i: its bits; "a window of NaNs alone gives 7ff8000000000000"
pub data Given (run : List ℕ) (w i : ℕ) : ℕ → Type 0 where
  found : (j : ℕ) → IsPeak run w i j → Given run w i (get_or run j 0)
  nothing : ((k : ℕ) → InWindow w i k → is_nan (reading run k) ≡ true) → Given run w i 0x7ff8_0000_0000_0000

-- so it is at each position of every run that is not turned away
abbrev pub PeakLaw : (List ℕ → ℕ → List ℕ → List ℕ) → Type 0
PeakLaw after =
    (run : List ℕ) (w : ℕ) (out : List ℕ) → 0 < w → w ≤ 64 → length run ≤ 4096 → length run ≤ length out
    → (i : ℕ) → i < length run → Given run w i (get_or (after run w out) i 0)
