-- Bytes placed in a lent slice: with room for all of them, and without.
use Prim.Native.Nat.{ℕ, ◌+◌, ◌≤◌, ◌<◌}
use mathlib.Core.Path.{◌≡◌}
use mathlib.Core.List.{List}
use borrow.Author.Tests.{le-leb, lt-leb}
use lib.ListN.{length}
use lib.Seq.{sets}
use Rattle.mir.specs.Encode.{buf, placed}

pub placed_fits : (l : List ℕ) (at : ℕ) (w : List ℕ) → at + length w ≤ length l
    → placed (buf l at) w ≡ buf (sets l at w) (at + length w)
unfolding placed
placed_fits l at w h = simp (le-leb _ _ h)

pub placed_full : (l : List ℕ) (at : ℕ) (w : List ℕ) → length l < at + length w → placed (buf l at) w ≡ buf l at
unfolding placed
placed_full l at w h = simp (lt-leb _ _ h)
