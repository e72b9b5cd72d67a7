-- `position_of` meets its contract. The invariant: the words passed over, with the position in what is left, are the whole answer.
use borrow.Author.Rules.{rules}
use native.Mathlib.Omega.{arith}
use Prim.Native.Nat.{◌≤◌, ◌+◌, ◌-◌}
use mathlib.Core.Path.{◌≡◌, ap, ◌∙◌}
use native.Mathlib.Nat.{zero-add}
use lib.ListN.{length, drop}
use native.Mathlib.Numerals.{add-one}
use Rattle.lowering.specs.Complexifier.{position}
use Rattle.rerun.proofs.Positions.{here, on, past}
use Rattle.rerun.proofs.constants.position_of.Statement.{statement}
use Rattle.rerun.proofs.constants.position_of.Tie as tie

abbrev invariant-loop-i : tie.invariant-loop-i
invariant-loop-i words v i₀ i = (i ≤ length words) × (i + position v (drop i words) ≡ position v words)

abbrev decreases-loop-i : tie.decreases-loop-i
decreases-loop-i words v i₀ i = length words - i

pub position_of_spec : {M : Type 1} → statement M
position_of_spec =
    tie.close
    (tie.spec
    invariant-loop-i
    decreases-loop-i
    (λ c. (search rules, simp zero-add))
    (λ c. search rules) (λ c. search rules)
    (λ c. let a = c.args in let l = c.loop-i in let h = here a.v a.words.now l.i c.loop-i-test.true c.if-words-i.true in let e = l.invariant.1 in omega (arith, h, e))
    (λ c. search rules) (λ c. search rules)
    (λ c. let a = c.args in let l = c.loop-i in let h = on a.v a.words.now l.i c.loop-i-test.true c.if-words-i.false in let e = l.invariant.1 in (search rules, ap (λ n. n + position a.v (drop n a.words.now)) (add-one l.i) ∙ omega (arith, h, e)))
    (λ c. let a = c.args in let l = c.loop-i in let h = past a.v a.words.now l.i c.loop-i-test.false in let e = l.invariant.1 in omega (arith, h, e)))
