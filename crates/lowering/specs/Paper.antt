-- The sheet of document 01 ("One sheet on paper").
use Rattle.std.specs.Prelude.{ℕ, List, [], ◌∷◌, ◌++◌, replicate}

-- "Plain mode, no real places, constant 4000000000000000; LoadConst general 0, constant 0; Load general 1, Mem 3; Times 0, 0, 1; Save 0,
-- Mem 4."
abbrev pub sheet : List ℕ
sheet =
    (69 ∷ 0 ∷ 32 ∷ 0 ∷ 0 ∷ replicate 64 0)
    ++ (12 ∷ 0 ∷ 33 ∷ 0 ∷ 0 ∷ 0 ∷ 0 ∷ 0 ∷ 0 ∷ 0 ∷ 0 ∷ 64 ∷ [])
    ++ (7 ∷ 0 ∷ 6 ∷ 0 ∷ 0 ∷ 0 ∷ 0 ∷ [])
    ++ (8 ∷ 0 ∷ 4 ∷ 0 ∷ 1 ∷ 1 ∷ 3 ∷ 0 ∷ [])
    ++ (8 ∷ 0 ∷ 2 ∷ 0 ∷ 2 ∷ 0 ∷ 0 ∷ 1 ∷ [])
    ++ (8 ∷ 0 ∷ 5 ∷ 0 ∷ 0 ∷ 1 ∷ 4 ∷ 0 ∷ [])
