-- The fields of a record, from the bytes that begin with it (document 01, Sheet, and the numbers 1, 2 and 4 of its table).
use Rattle.std.specs.Prelude.{ℕ, zero, suc, ◌+◌, ◌*◌, Bool, true, false, not, cond, ◌&&◌, ◌||◌, List, [], ◌∷◌, length, get_or, ltb, leb, eqb}
use Rattle.mir.specs.declared.records.Loc.{Loc}
use Rattle.mir.specs.Length.{length_of}
use Rattle.mir.specs.Read.{Read, got, refused, refuse, and_then}

abbrev pub byte_at : List ℕ → ℕ → ℕ
byte_at s i = get_or s i 0

-- n bytes, from the i-th on
abbrev pub bytes_at : List ℕ → ℕ → ℕ → List ℕ
bytes_at s i zero = []
bytes_at s i (suc n) = byte_at s i ∷ bytes_at s (suc i) n

-- "all little-endian"
unfoldable pub u16_at : List ℕ → ℕ → ℕ
u16_at s i = get_or s i 0 + 256 * get_or s (i + 1) 0

-- "Sheets take kinds 0 to 10"; "Listings take kinds 1 to 8 and 11 to 16"; with document 02, d) "Sheets take Label, Branch [..] and a new
-- kind 17", which listings take too
unfoldable pub among : ℕ → ℕ → ℕ → Bool
among first last kind = leb first kind && leb kind last

unfoldable pub takes_kind : Bool → ℕ → Bool
unfolding among
takes_kind false kind = among 0 10 kind || among 14 15 kind || among 17 17 kind
takes_kind true kind = among 1 8 kind || among 11 17 kind

-- "Within a record the order is: readable length (1), kind (2), kind's length (1)"; a readable length: not "fewer than 4 bytes
-- left, length under 4 or past the end". What is read is the kind.
unfoldable pub head_from : (ℕ → Bool) → List ℕ → Read ℕ
head_from takes s =
    refuse (ltb (length s) 4) 1
    (refuse (ltb (u16_at s 0) 4) 1
    (refuse (ltb (length s) (u16_at s 0)) 1
    (refuse (not (takes (u16_at s 2))) 2
    (refuse (not (eqb (length_of (u16_at s 2)) (u16_at s 0))) 1
    (got (u16_at s 2))))))

-- a place by its class
abbrev pub classed : ℕ → ℕ → Read Loc
classed class index =
    cond (eqb class 0) (got (Loc.Stack index))
    (cond (eqb class 1) (got (Loc.Mem index)) (cond (eqb class 2) (got (Loc.Param index)) (refused 4)))

-- 4, "bad place": "class above 2, index above 255"
unfoldable pub place_at : List ℕ → ℕ → Read Loc
place_at s i = refuse (ltb 255 (u16_at s (i + 1))) 4 (classed (get_or s i 0) (u16_at s (i + 1)))

-- 4: "a save to Param"
abbrev pub saved_to : Loc → Read Loc
saved_to (Loc.Stack i) = got (Loc.Stack i)
saved_to (Loc.Mem i) = got (Loc.Mem i)
saved_to (Loc.Param i) = refused 4

unfoldable pub save_place : List ℕ → ℕ → Read Loc
save_place s i = and_then (place_at s i) saved_to

-- 4: "an IfElse condition not on the stack"
abbrev pub on_stack : Loc → Read Loc
on_stack (Loc.Stack i) = got (Loc.Stack i)
on_stack (Loc.Mem i) = refused 4
on_stack (Loc.Param i) = refused 4

unfoldable pub cond_place : List ℕ → ℕ → Read Loc
cond_place s i = and_then (place_at s i) on_stack
