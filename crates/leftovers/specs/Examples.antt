-- Four sheets, one of them in each mode, and stores, at which demand 3 is looked at closely (theorems `needed`, `needed_stable`, `minded`,
-- `met`, `jumped_over` and `cleared`, entries/specs).
use Rattle.std.specs.Prelude.{ℕ, List, [], ◌∷◌, ◌++◌, set, replicate}
use Rattle.player_machine.specs.Machine.{Store}

-- the bytes of the listing slice into which they are lowered
abbrev pub room : ℕ
room = 1024

-- the store of zeros
unfoldable pub zeros : Store
zeros = replicate 1602 0

-- a header of plain mode, without real places
unfoldable pub header : List ℕ
header = 69 ∷ 0 ∷ 32 ∷ 0 ∷ 0 ∷ replicate 64 0

-- Real of general 0 into general 0, which is then recorded as real; Half of general 0 into general 1, which is recorded as complex
unfoldable pub mixing : List ℕ
unfolding header
mixing = header ++ 7 ∷ 0 ∷ 1 ∷ 0 ∷ 10 ∷ 0 ∷ 0 ∷ 7 ∷ 0 ∷ 1 ∷ 0 ∷ 13 ∷ 1 ∷ 0 ∷ []

-- the same in stable mode, and in mode 2
unfoldable pub stable_mixing : List ℕ
unfolding mixing
stable_mixing = set mixing 4 1

unfoldable pub minding_mixing : List ℕ
unfolding mixing
minding_mixing = set mixing 4 2

-- Real of general 0 into general 0 and of general 1 into general 1; Half of general 0 into general 1, both recorded as real
unfoldable pub clean : List ℕ
unfolding header
clean = header ++ 7 ∷ 0 ∷ 1 ∷ 0 ∷ 10 ∷ 0 ∷ 0 ∷ 7 ∷ 0 ∷ 1 ∷ 0 ∷ 10 ∷ 1 ∷ 1 ∷ 7 ∷ 0 ∷ 1 ∷ 0 ∷ 13 ∷ 1 ∷ 0 ∷ []

-- Real of general 0 into general 0; Branch 3; Half of general 0 into general 1, which is recorded as complex; Label 3
unfoldable pub jumping : List ℕ
unfolding header
jumping = header ++ 7 ∷ 0 ∷ 1 ∷ 0 ∷ 10 ∷ 0 ∷ 0 ∷ 5 ∷ 0 ∷ 15 ∷ 0 ∷ 3 ∷ 7 ∷ 0 ∷ 1 ∷ 0 ∷ 13 ∷ 1 ∷ 0 ∷ 5 ∷ 0 ∷ 14 ∷ 0 ∷ 3 ∷ []

-- Real of general 0 into general 0; Equal of general 0, which is recorded as real, and general 1 into general 2
unfoldable pub clearing : List ℕ
unfolding header
clearing = header ++ 7 ∷ 0 ∷ 1 ∷ 0 ∷ 10 ∷ 0 ∷ 0 ∷ 8 ∷ 0 ∷ 2 ∷ 0 ∷ 8 ∷ 2 ∷ 0 ∷ 1 ∷ []

-- two written to the imaginary half of general 0
unfoldable pub touched : Store
unfolding zeros
touched = set zeros 5 0x4000_0000_0000_0000

-- and to the real half of general 3
unfoldable pub marked : Store
unfolding touched
marked = set touched 10 0x4000_0000_0000_0000

-- from there the Equal of `clearing` clears the imaginary half of general 0, and its answer is true: all bits of general 2
unfoldable pub compared : Store
unfolding marked
compared = set (set (set marked 5 0) 9 0xffff_ffff_ffff_ffff) 8 0xffff_ffff_ffff_ffff
