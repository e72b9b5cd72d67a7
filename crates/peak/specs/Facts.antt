-- Short runs by computation. Assumes nothing.
use Rattle.std.specs.Prelude.{◌≡◌, refl, [], ◌∷◌}
use Rattle.std.specs.Float.Ieee.{is_nan, lt, of_bits}
use Rattle.peak.specs.Peak.{number, after}

-- -0, +0, +0 with w = 2: the earliest in each window
zeros : after (0x8000_0000_0000_0000 ∷ 0 ∷ 0 ∷ []) 2 (1 ∷ 2 ∷ 3 ∷ 4 ∷ []) ≡ 0x8000_0000_0000_0000 ∷ 0x8000_0000_0000_0000 ∷ 0 ∷ 4 ∷ []
unfolding after is_nan lt of_bits
zeros = refl

-- a NaN with a sign and low bits, 1, a NaN, 0.5 with w = 2
nans : after (0xfff0_0000_0000_0001 ∷ 0x3ff0_0000_0000_0000 ∷ 0x7ff8_0000_0000_0000 ∷ 0x3fe0_0000_0000_0000 ∷ []) 2 (0 ∷ 0 ∷ 0 ∷ 0 ∷ [])
    ≡ 0x7ff8_0000_0000_0000 ∷ 0x3ff0_0000_0000_0000 ∷ 0x3ff0_0000_0000_0000 ∷ 0x3fe0_0000_0000_0000 ∷ []
unfolding after is_nan lt of_bits
nans = refl

-- an output that is too short, and w out of its range
short : number (0 ∷ 0 ∷ []) 1 (0 ∷ []) ≡ 12
unfolding number
short = refl

narrow : number [] 0 [] ≡ 12
unfolding number
narrow = refl

wide : number [] 65 [] ≡ 12
unfolding number
wide = refl
