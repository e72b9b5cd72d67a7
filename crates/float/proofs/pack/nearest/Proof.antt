-- `float::pack::nearest` meets its contract: rest < unit - rest says that twice the rest is below the unit. Assumes nothing.
use mathlib.Core.Path.{◌≡◌, sym, ◌∙◌}
use Prim.Native.Nat.{Ordering}
use Prim.Native.Nat.{ℕ, ◌*◌, ◌/◌, ◌%◌, ◌^◌, ◌<◌}
use native.Mathlib.Nat.{mod-lt, div-le_self}
use native.Mathlib.Numerals.{add-one}
use native.Mathlib.Omega.{arith}
use lib.Pow.{pow_pos}
use borrow.Author.Rules.{rules}
use Rattle.float.proofs.Closest.{closest_by}
use Rattle.float.proofs.pack.nearest.Statement.{statement}
use Rattle.float.proofs.pack.nearest.Tie as tie

pow2-requires : tie.Need-pow2-unit-requires
pow2-requires c κs = search rules

shr-q : tie.Need-overflow_shr-q
shr-q c = search rules

low-digits-requires : tie.Need-low_digits-rest-requires
low-digits-requires c κs = search rules

-- the rest is below the unit
below : (c : tie.After-low_digits-rest) → c.low_digits-rest.result < c.pow2-unit.result
below c = let a = c.args in omega (arith, mod-lt a.w (pow_pos a.t), c.low_digits-rest.ensures, c.pow2-unit.ensures)

sub-left : tie.Need-overflow_sub-left
sub-left c = omega (arith, below c)

small : (w u : ℕ) → w < 2 ^ 63 → w / u < 2 ^ 63
small w u h = omega (arith, div-le_self w u)

add-result : tie.Need-overflow_add-result
add-result c = let a = c.args in omega (arith, small a.w (2 ^ a.t) c.requires.0)

add-result-2 : tie.Need-overflow_add-result-else-left-rest
add-result-2 c = let a = c.args in omega (arith, small a.w (2 ^ a.t) c.requires.0)

returns : tie.Need-returns-then-rest-left
returns c =
    let a = c.args in
    let r = c.low_digits-rest.ensures in
    let u = c.pow2-unit.ensures in
    let h : a.w % 2 ^ a.t * 2 < 2 ^ a.t = omega (arith, r, u, c.if-rest-left.true) in
    sym (closest_by Ordering.lt a.w (2 ^ a.t) h)

returns-2 : tie.Need-returns-then-left-rest
returns-2 c =
    let a = c.args in
    let r = c.low_digits-rest.ensures in
    let u = c.pow2-unit.ensures in
    let h : 2 ^ a.t < a.w % 2 ^ a.t * 2 = omega (arith, r, u, c.if-left-rest.true) in
    add-one (a.w / 2 ^ a.t) ∙ sym (closest_by Ordering.gt a.w (2 ^ a.t) h)

returns-3 : tie.Need-returns-else-left-rest
returns-3 c =
    let a = c.args in
    let r = c.low_digits-rest.ensures in
    let u = c.pow2-unit.ensures in
    let h : a.w % 2 ^ a.t * 2 ≡ 2 ^ a.t = omega (arith, r, u, below c.before.before, c.if-left-rest.false, c.if-rest-left.false) in
    sym (closest_by Ordering.eq a.w (2 ^ a.t) h)

pub nearest_spec : {M : Type 1} → statement M
nearest_spec =
    tie.close
    (tie.spec
    pow2-requires
    shr-q
    low-digits-requires
    sub-left
    add-result
    add-result-2
    returns
    returns-2
    returns-3)
