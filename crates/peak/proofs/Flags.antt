-- Comparisons of words as tests. Assumes nothing.
use Prim.Native.Nat.{ℕ, ◌*◌}
use mathlib.Core.Path.{◌≡◌, refl, ap}
use mathlib.Core.Bool.{Bool, true, false, not, ◌&&◌}
use native.Mathlib.Omega.{arith}
use borrow.Author.Tests.{eq-eqb}
use lib.Ieee.{Float, nan, inf, fin, up, down, is_nan, ne}
use Rattle.float.specs.Word.{flag}

pub holds : {r : ℕ} (t : Bool) → r ≡ flag t → (r ≡ 0 → ⊥) → t ≡ true
holds true e n = refl
holds false e n = absurd (n e)

pub fails : {r : ℕ} (t : Bool) → r ≡ flag t → r ≡ 0 → t ≡ false
fails true e z = absurd (omega arith)
fails false e z = refl

-- only a NaN differs from itself
pub differs : (x : Float) → ne x x ≡ is_nan x
unfolding ne is_nan
differs nan = refl
differs (inf true) = refl
differs (inf false) = refl
differs (fin true m e) = ap (λ t. not (t && true)) (eq-eqb (m * up e * down e) (m * up e * down e) refl)
differs (fin false m e) = ap (λ t. not (t && true)) (eq-eqb (m * up e * down e) (m * up e * down e) refl)
