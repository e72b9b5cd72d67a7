-- Tables: a test that antt computes over the whole table holds at each entry; and the tables of operations are read as the definitions say.
use Prim.Native.Nat.{ℕ, zero, suc, ◌<◌, ◌≤◌}
use mathlib.Core.Path.{◌≡◌, refl, ap}
use mathlib.Core.Bool.{Bool, true, false, not, ◌&&◌}
use mathlib.Core.List.{List, [], ◌∷◌}
use native.Mathlib.Nat.{not-suc-le-zero}
use native.Mathlib.Omega.{arith}
use lib.Dec.{T}
use lib.ListN.{length, get_or}
use Rattle.mir.specs.Read.{got, refused, refuse}
use Rattle.mir.specs.Operation.{taken}

pub and_left : (a b : Bool) → T (a && b) → T a
and_left true b t = tt
and_left false b t = t

pub and_right : (a b : Bool) → T (a && b) → T b
and_right true b t = t
and_right false b t = absurd t

-- the test passes at each entry
abbrev pub every : (ℕ → Bool) → List ℕ → Bool
every f [] = true
every f (x ∷ xs) = f x && every f xs

pub holds : (f : ℕ → Bool) (xs : List ℕ) → T (every f xs) → (k d : ℕ) → k < length xs → T (f (get_or xs k d))
holds f [] t k d h = absurd (not-suc-le-zero h)
holds f (x ∷ xs) t zero d h = and_left (f x) (every f xs) t
holds f (x ∷ xs) t (suc k) d h = holds f xs (and_right (f x) (every f xs) t) k d (omega arith)

-- no operation has a number past the last
pub taken_past : {A : Type 0} (takes : A → Bool) (ops : List A) (n : ℕ) → length ops ≤ n → taken takes ops n ≡ refused 2
taken_past takes [] n h = refl
taken_past takes (op ∷ ops) zero h = absurd (not-suc-le-zero h)
taken_past takes (op ∷ ops) (suc n) h = taken_past takes ops n (omega arith)

-- the operation of a number, where it is taken
pub taken_read : {A : Type 0} (takes : A → Bool) (ops : List A) (n : ℕ) (op : A) → n < length ops → op ≡ get_or ops n op
    → refuse (not (takes op)) 2 (got op) ≡ taken takes ops n
taken_read takes [] n op h e = absurd (not-suc-le-zero h)
taken_read takes (o ∷ ops) zero op h e = ap (λ op. refuse (not (takes op)) 2 (got op)) e
taken_read takes (o ∷ ops) (suc n) op h e = taken_read takes ops n op (omega arith) e
