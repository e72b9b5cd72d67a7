-- Short rows of points by computation. Assumes nothing.
use Rattle.std.specs.Prelude.{◌≡◌, refl, [], ◌∷◌, ℕ, replicate}
use Rattle.std.specs.Float.Ieee.{is_nan, le, of_bits, to_bits, add, sub, mul}
use Rattle.nearest.specs.Nearest.{Values, nearest}

-- the index i, none, and turned away
abbrev at : ℕ → Values
at i = record { number = 0; found = 1; index = i }

abbrev nothing : Values
nothing = record { number = 0; found = 0; index = 0 }

abbrev away : Values
away = record { number = 13; found = 0; index = 0 }

-- from (0, 0): (1, 0), (0, -1) and (-1, 0), which are equally far, then (2, 0): the last of the three
tie : nearest 0 0 (0x3ff0_0000_0000_0000 ∷ 0 ∷ 0 ∷ 0xbff0_0000_0000_0000 ∷ 0xbff0_0000_0000_0000 ∷ 0 ∷ 0x4000_0000_0000_0000 ∷ 0 ∷ []) ≡ at 2
unfolding nearest is_nan le of_bits to_bits add sub mul
tie = refl

-- a NaN in either word of a point is passed over, before, between and behind two that are equally far
nans : nearest 0 0 (0x7ff0_0000_0000_0001 ∷ 0 ∷ 0x3ff0_0000_0000_0000 ∷ 0 ∷ 0 ∷ 0x7ff8_0000_0000_0000 ∷ 0 ∷ 0x3ff0_0000_0000_0000 ∷ 0 ∷ 0xfff8_0000_0000_0000 ∷ []) ≡ at 3
unfolding nearest is_nan le of_bits to_bits add sub mul
nans = refl

-- zeros of both signs are equally far from 0, and from -0
zeros : nearest 0x8000_0000_0000_0000 0 (0x8000_0000_0000_0000 ∷ 0 ∷ 0 ∷ 0x8000_0000_0000_0000 ∷ []) ≡ at 1
unfolding nearest is_nan le of_bits to_bits add sub mul
zeros = refl

-- an infinite distance is one, and the later of two such; infinity from infinity is a NaN's
infinite : nearest 0 0 (0x7ff0_0000_0000_0000 ∷ 0 ∷ 0xfff0_0000_0000_0000 ∷ 0 ∷ []) ≡ at 1
unfolding nearest is_nan le of_bits to_bits add sub mul
infinite = refl

apart : nearest 0x7ff0_0000_0000_0000 0 (0 ∷ 0 ∷ 0x7ff0_0000_0000_0000 ∷ 0 ∷ []) ≡ at 0
unfolding nearest is_nan le of_bits to_bits add sub mul
apart = refl

-- no points, NaNs alone, and an answer that is a NaN
no_points : nearest 0 0 [] ≡ nothing
unfolding nearest
no_points = refl

nans_alone : nearest 0 0 (0x7ff8_0000_0000_0000 ∷ 0 ∷ []) ≡ nothing
unfolding nearest is_nan of_bits to_bits add sub mul
nans_alone = refl

lost : nearest 0 0xfff8_0000_0000_0007 (0 ∷ 0 ∷ 0 ∷ 0 ∷ []) ≡ nothing
unfolding nearest is_nan of_bits to_bits add sub mul
lost = refl

-- three words, and 1,026
odd : nearest 0 0 (0 ∷ 0 ∷ 0 ∷ []) ≡ away
unfolding nearest
odd = refl

long : nearest 0 0 (replicate 1026 0) ≡ away
unfolding nearest
long = refl
