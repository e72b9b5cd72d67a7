-- `float::sqrt::lengthen` meets its contract, by the laws of `Heron.antt` about the divisions by w. Assumes nothing.
use native.Mathlib.Omega.{arith}
use Prim.Native.Nat.{◌*◌, ◌%◌, ◌^◌}
use borrow.Author.Rules.{rules}
use Rattle.float.proofs.Heron.{Divided, divided, long, long_is, Close, close}
use Rattle.float.proofs.sqrt.lengthen.Statement.{statement}
use Rattle.float.proofs.sqrt.lengthen.Tie as tie

by : (c : tie.Start) → Divided c.args.m c.args.w
by c = divided c.args.m c.args.w c.requires.0 (omega (arith, c.requires.1)) (c.requires.2, c.requires.3)

near : (c : tie.After-apart-t)
    → let m = c.args.m in let w = c.args.w in let t = c.apart-t.result in Close (m * 2 ^ 52) (long m w) (m % w * 2 ^ 25 % w * 2 ^ 27) (t * t)
near c = let s = c.before in close s.args.m s.args.w c.apart-t.result (omega (arith, s.requires.1)) (s.requires.2, s.requires.3) (by s) c.apart-t.ensures

returns : tie.Need-returns
returns c =
    let s = c.before in
    let l = near c in
    (long_is s.args.m s.args.w (omega (arith, s.requires.1)), l.0, l.1, omega (arith, l.2, by s, s.requires.1), omega (arith, by s), search rules)

pub lengthen_spec : {M : Type 1} → statement M
lengthen_spec =
    tie.close
    (tie.spec
    (λ c. search rules)
    (λ c. omega (arith, by c))
    (λ c. search rules)
    (λ c. omega (arith, by c))
    (λ c. omega (arith, by c))
    (λ c. search rules)
    (λ c. omega (arith, by c))
    (λ c. omega (arith, by c))
    (λ c κs. search rules) (λ c. search rules)
    (λ c. omega (arith, by c.before))
    (λ c. omega (arith, near c))
    (λ c. search rules)
    returns)
