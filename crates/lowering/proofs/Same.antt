-- Records that are equal by the tests of 11 are one record.
use Prim.Native.Nat.{ℕ}
use mathlib.Core.Path.{◌≡◌, refl, sym}
use mathlib.Core.Bool.{Bool, true, false, true≢false, and-eq-true_iff}
use mathlib.Core.List.{List, [], ◌∷◌}
use borrow.Author.Tests.{eqb-true}
use lib.Dec.{eqb}
use Rattle.lowering.specs.declared.realness.Realness.{Realness}
use Rattle.lowering.specs.Labels.{flag_same, flags_same, bytes_same, same_records}

same_flag : (f g : Bool) → flag_same f g ≡ true → f ≡ g
same_flag true g e = sym e
same_flag false true e = absurd (true≢false (sym e))
same_flag false false e = refl

same_flags : (fs gs : List Bool) → flags_same fs gs ≡ true → fs ≡ gs
same_flags [] [] e = refl
same_flags [] (g ∷ gs) e = absurd (true≢false (sym e))
same_flags (f ∷ fs) [] e = absurd (true≢false (sym e))
same_flags (f ∷ fs) (g ∷ gs) e =
    let p = (and-eq-true_iff (flag_same f g) (flags_same fs gs)).0 e in
    rw (same_flag f g p.0, same_flags fs gs p.1) refl

pub same_bytes : (xs ys : List ℕ) → bytes_same xs ys ≡ true → xs ≡ ys
same_bytes [] [] e = refl
same_bytes [] (y ∷ ys) e = absurd (true≢false (sym e))
same_bytes (x ∷ xs) [] e = absurd (true≢false (sym e))
same_bytes (x ∷ xs) (y ∷ ys) e =
    let p = (and-eq-true_iff (eqb x y) (bytes_same xs ys)).0 e in
    rw (eqb-true x y p.0, same_bytes xs ys p.1) refl

pub same-records : (ρ ρ' : Realness) → same_records ρ ρ' ≡ true → ρ ≡ ρ'
same-records ρ ρ' e =
    let p = (and-eq-true_iff (flags_same ρ.regs ρ'.regs) (bytes_same ρ.places ρ'.places)).0 e in
    let f = same_flags ρ.regs ρ'.regs p.0 in
    let g = same_bytes ρ.places ρ'.places p.1 in
    λ i. record { regs = f i; places = g i }
