-- The nearest reference point (document 02, g and j). Words and their arithmetic are document 01's (`float/specs/Word`).
use Rattle.std.specs.Prelude.{ℕ, suc, ◌%◌, Bool, not, cond, ◌||◌, List, [], ◌∷◌, length, eqb, ltb}
use Rattle.std.proofs.Math.Option.{Option, none, some}
use Rattle.std.specs.Float.Ieee.{is_nan, le}
use Rattle.float.specs.Word.{value, plus, minus, times}

-- "Distance is the difference of real words squared plus that of imaginary words squared, five operations, each rounded once"
abbrev pub distance : ℕ → ℕ → ℕ → ℕ → ℕ
distance re im x y =
    let a = minus re x in
    let b = minus im y in
    plus (times a a) (times b b)

-- a point's index and its distance from the answer
pub record Candidate : Type 0 where
  pub index : ℕ
  pub far : ℕ

-- "reference points, each two f64 words": those of the words, numbered from i on
unfoldable pub candidates : ℕ → ℕ → ℕ → List ℕ → List Candidate
candidates re im i [] = []
candidates re im i (x ∷ []) = []
candidates re im i (x ∷ y ∷ points) = record { index = i; far = distance re im x y } ∷ candidates re im (suc i) points

-- j: "of equal distances the latest is to be chosen": a later point takes the place of an earlier one where it is not farther
abbrev pub not_farther : ℕ → ℕ → Bool
not_farther later earlier = le (value later) (value earlier)

-- The best so far, one point further, by a comparison. "Points whose distance is NaN are passed over"
abbrev pub chosen : (ℕ → ℕ → Bool) → Option Candidate → Candidate → Option Candidate
chosen wins none new = some new
chosen wins (some old) new = cond (wins new.far old.far) (some new) (some old)

abbrev pub better : (ℕ → ℕ → Bool) → Option Candidate → Candidate → Option Candidate
better wins best new = cond (is_nan (value new.far)) best (chosen wins best new)

-- one fold over the points, by a comparison
unfoldable pub fold : (ℕ → ℕ → Bool) → Option Candidate → List Candidate → Option Candidate
fold wins best [] = best
fold wins best (new ∷ points) = fold wins (better wins best new) points

unfoldable pub best_of : (ℕ → ℕ → Bool) → ℕ → ℕ → List ℕ → Option Candidate
unfolding fold candidates
best_of wins re im points = fold wins none (candidates re im 0 points)

-- What comes back: the number, whether there is a nearest point (1, else 0), and its index.
pub record Values : Type 0 where
  pub number : ℕ
  pub found : ℕ
  pub index : ℕ

-- "The index of the point with the smallest comes back"; "if none is left the answer says none"
abbrev pub told : Option Candidate → Values
told none = record { number = 0; found = 0; index = 0 }
told (some best) = record { number = 0; found = 1; index = best.index }

-- "Turned away: 13 for an odd count of words or more than 1,024 of them."
unfoldable pub nearest : ℕ → ℕ → List ℕ → Values
unfolding best_of
nearest re im points =
    cond (not (eqb (length points % 2) 0) || ltb 1024 (length points)) (record { number = 13; found = 0; index = 0 })
    (told (best_of not_farther re im points))
