-- `float::integral::directed` meets its contract (`ceiling-suc`). Assumes nothing.
use mathlib.Core.Path.{sym, ap, ◌∙◌}
use Prim.Native.Nat.{ℕ, suc, ◌+◌, ◌-◌, ◌^◌}
use native.Mathlib.Nat.{div-le_self}
use native.Mathlib.Omega.{arith}
use lib.Pow.{pow_pos}
use borrow.Author.Rules.{rules}
use Rattle.float.specs.Integral.{ceiling}
use Rattle.float.proofs.ToIntegral.{ceiling-suc}
use Rattle.float.proofs.integral.directed.Statement.{statement}
use Rattle.float.proofs.integral.directed.Tie as tie

sub-whole-part : tie.Need-overflow_sub-m
sub-whole-part c = search rules

whole-part-requires : tie.Need-whole_part-requires
whole-part-requires c κs = search rules

add-result : tie.Need-overflow_add-result
add-result c =
    let s = c.before.before in
    omega (arith, c.whole_part.ensures, div-le_self (s.args.m - 1) (2 ^ s.args.t), s.requires)

whole-part-requires-2 : tie.Need-whole_part-requires-else-away
whole-part-requires-2 c κs = search rules

returns : tie.Need-returns-then-away
returns c =
    let s = c.before.before in
    let m = s.args.m in
    let u = 2 ^ s.args.t in
    simp c.if-away.true
    (ap (λ (n : ℕ). n + 1) c.whole_part.ensures
    ∙ sym (ceiling-suc (m - 1) u (pow_pos s.args.t))
    ∙ ap (λ (n : ℕ). ceiling n u) {x = suc (m - 1)} {y = m} (omega (arith, s.requires)))

returns-2 : tie.Need-returns-else-away
returns-2 c = simp c.if-away.false c.whole_part-else-away.ensures

pub directed_spec : {M : Type 1} → statement M
directed_spec = tie.close (tie.spec sub-whole-part whole-part-requires add-result whole-part-requires-2 returns returns-2)
