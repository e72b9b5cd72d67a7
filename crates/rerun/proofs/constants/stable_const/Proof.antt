-- `stable_const` meets its contract.
use borrow.Author.Rules.{rules}
use native.Mathlib.Omega.{arith}
use mathlib.Core.Path.{◌≡◌, sym}
use Prim.Native.Nat.{◌≤◌}
use native.Mathlib.Nat.{le_trans}
use lib.ListN.{length, take, length-take}
use Rattle.rerun.proofs.Positions.{found, found-added, newly}
use Rattle.rerun.proofs.constants.stable_const.Statement.{statement}
use Rattle.rerun.proofs.constants.stable_const.Tie as tie

pub stable_const_spec : {M : Type 1} → statement M
stable_const_spec =
    tie.close
    (tie.spec
    (λ c κs. search rules)
    (λ c. let h = c.requires.0 in let g = c.requires.1 in omega (arith, h))
    (λ c. found c.position_of-p.ensures (omega arith))
    (λ c. let w : length c.args.added.words ≡ 3 = search rules in let q : 2 ≤ length c.args.added.words = omega (arith, w) in le_trans c.requires.1 q)
    (λ c. let h = c.requires.0 in let g = c.requires.1 in let w : length c.args.added.words ≡ 3 = search rules in let t : length (take c.args.added.count c.args.added.words) ≡ c.args.added.count = simp length-take (omega (arith, g, w)) in sym t)
    (λ c κs. search rules)
    (λ c. let h = c.requires.0 in let g = c.requires.1 in omega (arith, h, g))
    (λ c. let h = c.requires.0 in let g = c.requires.1 in omega (arith, h, g))
    (λ c. let h = c.requires.0 in let g = c.requires.1 in let w : length c.args.added.words ≡ 3 = search rules in let t : length (take c.args.added.count c.args.added.words) ≡ c.args.added.count = simp length-take (omega (arith, g, w)) in let e = c.position_of-p.ensures in let f = c.position_of-q.ensures in found-added (omega (arith, e)) f (omega (arith, t)))
    (λ c. let h = c.requires.0 in let g = c.requires.1 in omega (arith, g))
    (λ c. let h = c.requires.0 in let g = c.requires.1 in omega (arith, g))
    (λ c. let h = c.requires.0 in let g = c.requires.1 in omega (arith, h, g))
    (λ c. let h = c.requires.0 in let g = c.requires.1 in omega (arith, h, g))
    (λ c. let h = c.requires.0 in let g = c.requires.1 in omega (arith, h, g))
    (λ c. let h = c.requires.0 in let g = c.requires.1 in let w : length c.args.added.words ≡ 3 = search rules in let t : length (take c.args.added.count c.args.added.words) ≡ c.args.added.count = simp length-take (omega (arith, g, w)) in let e = c.position_of-p.ensures in let f = c.position_of-q.ensures in newly (omega (arith, e)) (omega (arith, f, t)) (omega (arith, g, w)) w))
