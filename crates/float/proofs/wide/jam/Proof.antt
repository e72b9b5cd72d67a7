-- `float::wide::jam` meets its contract. Assumes nothing.
use mathlib.Core.Path.{◌≡◌, sym, ◌∙◌}
use Prim.Native.Nat.{◌%◌, ◌^◌}
use native.Mathlib.Nat.{div-le_self}
use native.Mathlib.Omega.{arith}
use lib.Pow.{pow_pos}
use borrow.Author.Rules.{rules}
use Rattle.float.proofs.Sticky.{jam_near, cut_near}
use Rattle.float.proofs.wide.jam.Statement.{statement}
use Rattle.float.proofs.wide.jam.Tie as tie

shr-q : tie.Need-overflow_shr-q
shr-q c = search rules

low-digits-requires : tie.Need-low_digits-requires
low-digits-requires c κs = search rules

sub-result : tie.Need-overflow_sub-result
sub-result c = search rules

add-result : tie.Need-overflow_add-result
add-result c =
    let s = c.before.before in
    record { fits = omega (arith, div-le_self s.args.w (2 ^ s.args.d), s.ranges.w.fits) }

returns : tie.Need-returns-then-low_digits-eq0
returns c =
    let a = c.args in
    cut_near a.w (2 ^ a.d) (sym c.low_digits.ensures ∙ c.if-low_digits-eq0.true)

returns-2 : tie.Need-returns-else-low_digits-eq0
returns-2 c =
    let a = c.args in
    jam_near a.w (2 ^ a.d) (pow_pos a.d) (λ (e : a.w % 2 ^ a.d ≡ 0). c.if-low_digits-eq0.false (c.low_digits.ensures ∙ e))

pub jam_spec : {M : Type 1} → statement M
jam_spec = tie.close (tie.spec shr-q low-digits-requires sub-result add-result returns returns-2)
