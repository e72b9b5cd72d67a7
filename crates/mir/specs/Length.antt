-- The kinds and their lengths (document 01, the table of Sheet; document 02, d: "a new kind 17, BranchIf: condition register, label, and a
-- byte 0 or 1 that is `is_else`; length 7").
use Rattle.std.specs.Prelude.{ℕ, ◌+◌, ◌≡◌, refl, List, [], ◌∷◌, map, get_or}

-- The column Length, by kind from 0.
unfoldable pub lengths : List ℕ
lengths = 4 ∷ 7 ∷ 8 ∷ 6 ∷ 8 ∷ 8 ∷ 7 ∷ 9 ∷ 10 ∷ 10 ∷ 9 ∷ 9 ∷ 9 ∷ 11 ∷ 5 ∷ 5 ∷ 5 ∷ 7 ∷ []

unfoldable pub length_of : ℕ → ℕ
unfolding lengths
length_of kind = get_or lengths kind 0

-- The column Fields, by kind from 0.
pub data Field : Type 0 where
  op register place constant label flag : Field

abbrev pub fields : List (List Field)
fields =
    []
    ∷ (op ∷ register ∷ register ∷ [])
    ∷ (op ∷ register ∷ register ∷ register ∷ [])
    ∷ (register ∷ register ∷ [])
    ∷ (register ∷ place ∷ [])
    ∷ (register ∷ place ∷ [])
    ∷ (register ∷ constant ∷ [])
    ∷ (op ∷ register ∷ register ∷ register ∷ register ∷ [])
    ∷ (register ∷ register ∷ register ∷ place ∷ [])
    ∷ (op ∷ register ∷ register ∷ place ∷ [])
    ∷ (op ∷ register ∷ register ∷ constant ∷ [])
    ∷ (register ∷ register ∷ place ∷ [])
    ∷ (register ∷ register ∷ place ∷ [])
    ∷ (op ∷ register ∷ register ∷ register ∷ register ∷ register ∷ register ∷ [])
    ∷ (label ∷ [])
    ∷ (label ∷ [])
    ∷ (label ∷ [])
    ∷ (register ∷ label ∷ flag ∷ [])
    ∷ []

-- "A place is a class byte and a two-byte index; a constant index has two bytes; other fields one."
abbrev pub bytes_of : Field → ℕ
bytes_of op = 1
bytes_of register = 1
bytes_of place = 3
bytes_of constant = 2
bytes_of label = 1
bytes_of flag = 1

abbrev pub bytes_of_all : List Field → ℕ
bytes_of_all [] = 0
bytes_of_all (f ∷ fs) = bytes_of f + bytes_of_all fs

-- The table's rule, over the whole table: two bytes of length, two of kind, then the fields.
pub rule : lengths ≡ map (λ fs. 4 + bytes_of_all fs) fields
unfolding lengths
rule = refl
