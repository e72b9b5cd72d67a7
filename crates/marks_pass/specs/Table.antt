-- The table by which the code marks a working record: a row of eight for each kind from 0 to 13. A row has where in the record the registers
-- begin that it draws on, at most four, and where those begin that it fills, at most two; then for each of the six 0, or 128 where the kind has
-- no such register.
use Rattle.std.specs.Prelude.{ℕ, List, [], ◌∷◌}

abbrev pub row : ℕ → ℕ → ℕ → ℕ → ℕ → ℕ → ℕ → ℕ → List ℕ → List ℕ
row a b c d e f g h rest = a ∷ b ∷ c ∷ d ∷ e ∷ f ∷ g ∷ h ∷ rest

unfoldable pub table : List ℕ
table =
    row 4 4 128 128 128 128 128 128
    (row 6 5 0 128 128 128 0 128
    (row 6 5 0 0 128 128 0 128
    (row 5 4 0 128 128 128 0 128
    (row 4 4 128 128 128 128 0 128
    (row 4 4 0 128 128 128 128 128
    (row 4 4 128 128 128 128 0 128
    (row 6 5 0 0 0 128 0 128
    (row 5 4 0 0 128 128 0 128
    (row 4 4 128 128 128 128 128 128
    (row 4 4 128 128 128 128 128 128
    (row 4 4 128 128 128 128 0 0
    (row 4 4 0 0 128 128 128 128
    (row 7 5 0 0 0 0 0 0 [])))))))))))))
