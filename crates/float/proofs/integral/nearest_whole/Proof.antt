-- `float::integral::nearest_whole` meets its contract. Assumes nothing.
use mathlib.Core.Path.{sym, ap, ◌∙◌}
use Prim.Native.Nat.{ℕ, ◌^◌}
use native.Mathlib.Nat.{mul-one}
use native.Mathlib.Omega.{arith}
use lib.Dec.{lit<}
use lib.Ieee.Nearest.{closest}
use borrow.Author.Rules.{rules}
use Rattle.float.proofs.Closest.{closest_exact, closest_none}
use Rattle.float.proofs.integral.nearest_whole.Statement.{statement}
use Rattle.float.proofs.integral.nearest_whole.Tie as tie

returns : tie.Need-returns-then-t-eq0
returns c =
    let m = c.args.m in
    sym (ap (λ (t : ℕ). closest m (2 ^ t)) c.if-t-eq0.true ∙ ap (λ (x : ℕ). closest x 1) (sym (mul-one m)) ∙ closest_exact m 1 (lit< tt))

returns-2 : tie.Need-returns-then-t-gt63
returns-2 c = let s = c.before.before in sym (closest_none s.args.m s.args.t (omega (arith, s.requires)) c.if-t-gt63.true)

nearest-requires : tie.Need-nearest-requires
nearest-requires c κs = search rules

returns-3 : tie.Need-returns
returns-3 c = c.nearest.ensures

pub nearest_whole_spec : {M : Type 1} → statement M
nearest_whole_spec = tie.close (tie.spec returns returns-2 nearest-requires returns-3)
