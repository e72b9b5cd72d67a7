-- A run of records where there is room for all of them: their bytes stand one after the other.
use Prim.Native.Nat.{ℕ, suc, ◌+◌, ◌≤◌}
use mathlib.Core.Path.{◌≡◌, ◌∙◌}
use mathlib.Core.List.{List, [], ◌∷◌, ◌++◌}
use lib.ListN.{length, set, length-append}
use lib.Seq.{sets, length-sets}
use native.Mathlib.Nat.{add-zero, add-suc, suc-add, add_assoc}
use native.Mathlib.Omega.{arith}
use Rattle.mir.specs.declared.records.Record.{Record}
use Rattle.mir.specs.Encode.{buf, encode, encode_all}
use Rattle.mir.proofs.Placing.{placed_fits}
use Rattle.mir.specs.Writing.{push_all}

pub sets-append : (l : List ℕ) (i : ℕ) (a b : List ℕ) → sets l i (a ++ b) ≡ sets (sets l i a) (i + length a) b
sets-append l i [] b = simp add-zero
sets-append l i (x ∷ a) b = sets-append (set l i x) (suc i) a b ∙ simp (add-suc, suc-add)

pub push_all_fits : (l : List ℕ) (at : ℕ) (rs : List Record) → at + length (encode_all rs) ≤ length l
    → push_all (buf l at) rs ≡ buf (sets l at (encode_all rs)) (at + length (encode_all rs))
push_all_fits l at [] h = simp add-zero
push_all_fits l at (r ∷ rs) h =
    let e : length (encode r ++ encode_all rs) ≡ length (encode r) + length (encode_all rs) = simp length-append in
    let k : at + length (encode r) ≤ length l = omega (arith, e) in
    let m : at + length (encode r) + length (encode_all rs) ≤ length (sets l at (encode r)) = simp length-sets (omega (arith, e)) in
    rw (placed_fits l at (encode r) k) (push_all_fits (sets l at (encode r)) (at + length (encode r)) rs m
    ∙ simp (sets-append, length-append, add_assoc))
