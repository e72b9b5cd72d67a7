-- `float::sqrt::rounded_root` meets its contract. Assumes nothing.
use mathlib.Core.Path.{◌≡◌, sym, ap, ◌∙◌}
use mathlib.Core.Bool.{Bool, cond}
use Prim.Native.Nat.{ℕ, ◌+◌, ◌*◌, ◌^◌, ◌<◌}
use native.Mathlib.Omega.{arith}
use borrow.Author.Rules.{rules}
use borrow.Author.Tests.{le-leb, lt-leb}
use lib.Dec.{leb}
use Rattle.float.specs.Mends.{rounded}
use Rattle.float.proofs.SquareRoot.{root-lt}
use Rattle.float.proofs.ByMends.{rounded_is}
use Rattle.float.proofs.sqrt.rounded_root.Statement.{statement}
use Rattle.float.proofs.sqrt.rounded_root.Tie as tie

-- all that the result turns on
module _ (c : tie.After-whole_root-s) where
  abbrev m : ℕ
  m = c.args.m

  abbrev q : ℕ
  q = c.whole_root-s.result.q

  abbrev r : ℕ
  r = c.whole_root-s.result.r

  top : q < 2 ^ 53
  top =
      let e = c.whole_root-s.ensures in
      root-lt (m * 2 ^ 52) q (2 ^ 53) (omega (arith, e.3), omega (arith, e.3, e.4)) (omega (arith, c.requires.1))

  result : cond (leb r q) q (q + 1) ≡ rounded m
  result = rounded_is m q r c.whole_root-s.ensures.0 c.whole_root-s.ensures.3

returns : tie.Need-returns-then-s
returns c =
    let w = c.before.before.before in
    (sym (ap (λ (b : Bool). cond b (q w) (q w + 1)) (lt-leb (r w) (q w) c.if-s.true)) ∙ result w, omega (arith, top w))

returns-2 : tie.Need-returns-else-s
returns-2 c =
    let w = c.before.before in
    (sym (ap (λ (b : Bool). cond b (q w) (q w + 1)) (le-leb (r w) (q w) c.if-s.false)) ∙ result w, omega (arith, top w))

pub rounded_root_spec : {M : Type 1} → statement M
rounded_root_spec = tie.close (tie.spec (λ c κs. search rules) (λ c. omega (arith, top c.before.before.before)) returns returns-2)
