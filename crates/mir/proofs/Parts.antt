-- The part of a slice from a position to its end, as the code knows it.
use Prim.Native.Nat.{ℕ, ◌-◌}
use mathlib.Core.Path.{◌≡◌}
use mathlib.Core.List.{List}
use native.Mathlib.Omega.{arith}
use lib.ListN.{length, take, drop, length-drop}
use lib.Seq.{take_all}

pub part : (s : List ℕ) (at : ℕ) → take (length s - at) (drop at s) ≡ drop at s
part s at = let h = length-drop at s in take_all (length s - at) (drop at s) (omega arith)
