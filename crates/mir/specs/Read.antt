-- What a reader finds, and the tests by which it refuses.
use Rattle.std.specs.Prelude.{ℕ, Bool, true, false, ◌||◌, List, [], ◌∷◌, ltb, leb}

-- what was read, or the number of document 01's table that refuses it
pub data Read (A : Type 0) : Type 0 where
  got : A → Read A
  refused : ℕ → Read A

-- a test that refuses, before the tests that follow
abbrev pub refuse : {A : Type 0} → Bool → ℕ → Read A → Read A
refuse true n r = refused n
refuse false n r = r

-- a part that is read first: its refusal, or what follows from it
abbrev pub and_then : {A B : Type 0} → Read A → (A → Read B) → Read B
and_then (got a) f = f a
and_then (refused n) f = refused n

-- 3, "bad register": a byte above the limit, 31 in a sheet and 65 in a listing
abbrev pub above : ℕ → List ℕ → Bool
above limit [] = false
above limit (x ∷ xs) = ltb limit x || above limit xs

abbrev pub registers : {A : Type 0} → ℕ → List ℕ → Read A → Read A
registers limit xs r = refuse (above limit xs) 3 r

-- 5, "missing constant": an index not below the count
abbrev pub constant : {A : Type 0} → ℕ → ℕ → Read A → Read A
constant count idx r = refuse (leb count idx) 5 r
