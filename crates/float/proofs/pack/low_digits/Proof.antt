-- `float::pack::low_digits` meets its contract. Assumes nothing.
use mathlib.Core.Path.{ap, ◌∙◌}
use Prim.Native.Nat.{ℕ, ◌-◌}
use native.Mathlib.Omega.{arith}
use lib.Bits.{bit_and, and_mask}
use lib.Pow.{pow_pos}
use borrow.Author.Rules.{rules}
use Rattle.float.proofs.pack.low_digits.Statement.{statement}
use Rattle.float.proofs.pack.low_digits.Tie as tie

pow2-requires : tie.Need-pow2-requires
pow2-requires c κs = search rules

sub-result : tie.Need-overflow_sub-result
sub-result c = omega (arith, pow_pos c.args.t, c.pow2.ensures)

returns : tie.Need-returns
returns c =
    let a = c.args in
    ap (λ (x : ℕ). bit_and a.w (x - 1)) c.pow2.ensures ∙ and_mask a.w a.t

pub low_digits_spec : {M : Type 1} → statement M
low_digits_spec = tie.close (tie.spec pow2-requires sub-result returns)
