-- Document 02, e): the running peak. A word's value is that of the player's arithmetic. Assumes nothing.
use Rattle.std.specs.Prelude.{ℕ, zero, suc, ◌+◌, ◌-◌, Bool, ◌||◌, cond, List, [], ◌∷◌, ◌++◌, ltb, eqb, length, drop}
use Rattle.std.proofs.Math.Seq.{slice}
use Rattle.std.specs.Float.Ieee.{is_nan, lt}
use Rattle.float.specs.Word.{value}

-- of an earlier word and a later one the later, where the earlier is a NaN or below it: "Minus zero and zero count as equal, and the earlier
-- bits are returned", "A NaN is passed over"
unfoldable pub larger : ℕ → ℕ → ℕ
larger a b = cond (is_nan (value a) || lt (value a) (value b)) b a

-- "a window of NaNs alone gives 7ff8000000000000"
abbrev pub none : ℕ
none = 0x7ff8_0000_0000_0000

-- the largest of words, the earliest first
unfoldable pub largest : List ℕ → ℕ
unfolding larger
largest [] = none
largest (a ∷ ws) = larger a (largest ws)

-- "the window that ends there": the last w words up to position i; "early windows are shorter"
abbrev pub window : List ℕ → ℕ → ℕ → List ℕ
window run w i = slice (i + 1 - w) (i + 1) run

-- "for each position the largest in the window that ends there": those of the first n positions
unfoldable pub peaks : List ℕ → ℕ → ℕ → List ℕ
unfolding largest
peaks run w zero = []
peaks run w (suc i) = peaks run w i ++ (largest (window run w i) ∷ [])

-- the output with the peaks of the first n positions; "words of the output past the run are as lent"
unfoldable pub filled : List ℕ → ℕ → ℕ → List ℕ → List ℕ
unfolding peaks
filled run w n out = peaks run w n ++ drop n out

-- "Turned away: .. w outside its range, a run too long, or an output shorter than the run"
unfoldable pub refused : List ℕ → ℕ → List ℕ → Bool
refused run w out = (eqb w 0 || ltb 64 w) || (ltb 4096 (length run) || ltb (length out) (length run))

-- "12 for w outside its range, ..", else 0
unfoldable pub number : List ℕ → ℕ → List ℕ → ℕ
unfolding refused
number run w out = cond (refused run w out) 12 0

-- the output after: "nothing is written" where it is turned away
unfoldable pub after : List ℕ → ℕ → List ℕ → List ℕ
unfolding refused filled
after run w out = cond (refused run w out) out (filled run w (length run) out)
