-- `float::exponent::odd_digit` meets its contract. Assumes nothing.
use mathlib.Core.Path.{◌≡◌, sym, ap, ◌∙◌, subst}
use Prim.Native.Nat.{◌%◌, ◌<◌}
use native.Mathlib.Omega.{arith}
use lib.Dec.{T}
use lib.IntN.{ℤ, pos, negsuc, nat_abs}
use lib.Signed.{mag, non_neg}
use lib.Bits.{bit_and, and_mask}
use mir.Syntax.{w32}
use mir.Val.{to_z, of_z}
use Rattle.float.specs.Biased.{biased}
use Rattle.float.proofs.Signed.{read_same}
use Rattle.float.proofs.exponent.odd_digit.Statement.{statement}
use Rattle.float.proofs.exponent.odd_digit.Tie as tie

low_digit : (z : ℤ) → mag z < 8192 → of_z w32 z % 2 ≡ biased z % 2
low_digit (pos n) h = omega arith
low_digit (negsuc n) h = omega arith

digit-is : (z : ℤ) → mag z < 8192 → to_z w32 (bit_and (of_z w32 z) 1) ≡ pos (biased z % 2)
digit-is z h = ap (to_z w32) (and_mask (of_z w32 z) 1 ∙ low_digit z h) ∙ read_same (pos (biased z % 2)) (omega arith)

cast-result : tie.Need-overflow_cast-result
cast-result c =
    let z = c.args.e in
    let d = digit-is z c.requires in
    (subst (λ (y : ℤ). T (non_neg y)) (sym d) tt, record { fits = omega (arith, ap nat_abs d) })

returns : tie.Need-returns
returns c = ap nat_abs (digit-is c.args.e c.requires)

pub odd_digit_spec : {M : Type 1} → statement M
odd_digit_spec = tie.close (tie.spec cast-result returns)
