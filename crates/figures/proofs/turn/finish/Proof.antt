-- `finish` meets its contract.
use borrow.Author.Rules.{rules}
use native.Mathlib.Omega.{arith}
use Prim.Native.Nat.{◌+◌, ◌≤◌, ◌<◌}
use mathlib.Core.Path.{◌≡◌, ap, sym, ◌∙◌, subst}
use lib.ListN.{length, take, length-take}
use Rattle.words.proofs.Stored.{stored_fits}
use Rattle.figures.specs.declared.counting.Count.{Count}
use Rattle.figures.specs.Taken.{finished}
use Rattle.figures.proofs.Taking.{too_long, copied}
use Rattle.figures.proofs.turn.finish.Statement.{statement}
use Rattle.figures.proofs.turn.finish.Tie as tie

pub finish_spec : {M : Type 1} → statement M
finish_spec =
    tie.close
    (tie.spec
    (λ c κs. let f = c.requires in (f.0.listed, (f.0.taken, f.1)))
    (λ c κs. search rules)
    (λ c. λ i q rs e. too_long (subst (λ (x : Count). 65536 < x.bytes) (c.count_records-taken.ensures i q rs e) (omega arith)) c.refused.ensures)
    (λ c. let f = c.requires.0 in omega (arith, f.index, f.count))
    (λ c. let f = c.requires.0 in omega (arith, f.index, f.count))
    (λ c. c.requires.0.few)
    (λ c. let f = c.requires.0 in let a = c.args in let l : length (take a.t.added.count a.t.added.words) ≡ a.t.added.count = simp length-take (omega (arith, f.few)) in sym l)
    (λ c κs. search rules) (λ c. search rules)
    (λ c. λ i q rs e. let f = c.requires.0 in let a = c.args in
    let n = c.count_records-taken.ensures i q rs e in
    let l : length (take a.t.added.count a.t.added.words) ≡ a.t.added.count = simp length-take (omega (arith, f.few)) in
    let h : a.p.constants + length (take a.t.added.count a.t.added.words) ≤ length a.constants.now = omega (arith, l, f.count, f.words) in
    copied (subst (λ (x : Count). x.bytes ≤ 65536) n (omega arith)) (ap (λ (x : Count). finished a.t x a.next a.p) n) (c.put.ensures ∙ stored_fits _ _ _ h)))
