-- `case::result` meets its contract: in each arm the operation's number is known, and what it gives stands at that number among the answers;
-- in the last the number is none of the arms', so it is past the answers.
-- Assumes nothing.
use Prim.Native.Nat.{ℕ, zero, suc, ◌≤◌}
use mathlib.Core.Path.{◌≡◌, sym, ap, ◌∙◌}
use native.Mathlib.Omega.{arith}
use native.Mathlib.Numerals.{lt_of_le_of_ne}
use lib.ListN.{get_or-eq_default}
use Rattle.float_replay.specs.Case.{answers, answer}
use Rattle.float_replay.proofs.case.result.Statement.{statement}
use Rattle.float_replay.proofs.case.result.Tie as tie

module _ (s : tie.Start) where
  abbrev at : ℕ → ℕ
  at op = answer op s.args.a s.args.b s.args.c s.args.d

  -- an arm: the answer at the number that op is
  arm : {k r : ℕ} → s.args.op ≡ k → r ≡ at k → r ≡ at s.args.op
  arm e given = given ∙ ap at (sym e)

  past : 35 ≤ s.args.op → 0 ≡ at s.args.op
  unfolding answer
  past h = sym (get_or-eq_default (answers s.args.a s.args.b s.args.c s.args.d) 0 h)

-- n is none of the numbers below k, as the last arm of a match says it
Others : ℕ → ℕ → Type 0
Others n zero = Unit {0}
Others n (suc k) = Others n k × (n ≡ k → ⊥)

others-le : (n k : ℕ) → Others n k → k ≤ n
unfolding Others
others-le n zero others = omega arith
others-le n (suc k) others = lt_of_le_of_ne (others-le n k others.0) (λ e. others.1 (sym e))

pub result_spec : {M : Type 1} → statement M
unfolding answer Others
result_spec =
    tie.close
    (tie.spec
    (λ c κs. tt) (λ c κs. tt) (λ c κs. tt) (λ c κs. tt) (λ c κs. tt) (λ c κs. tt) (λ c κs. tt) (λ c κs. tt) (λ c κs. tt) (λ c κs. tt)
    (λ c κs. tt) (λ c κs. tt) (λ c κs. tt) (λ c κs. tt) (λ c κs. tt) (λ c κs. tt) (λ c κs. tt) (λ c κs. tt) (λ c κs. tt) (λ c κs. tt)
    (λ c κs. tt) (λ c κs. tt) (λ c κs. tt) (λ c κs. tt) (λ c κs. tt) (λ c κs. tt) (λ c κs. tt) (λ c κs. tt) (λ c κs. tt) (λ c κs. tt)
    (λ c κs. tt) (λ c κs. tt) (λ c κs. tt) (λ c κs. tt) (λ c κs. tt)
    (λ c. arm c.before.before c.in-0.is c.plus.ensures)
    (λ c. arm c.before.before c.in-1.is c.minus.ensures)
    (λ c. arm c.before.before c.in-2.is c.times.ensures)
    (λ c. arm c.before.before c.in-3.is c.divide.ensures)
    (λ c. arm c.before.before c.in-4.is c.half.ensures)
    (λ c. arm c.before.before c.in-5.is c.recip.ensures)
    (λ c. arm c.before.before c.in-6.is c.greater_than.ensures)
    (λ c. arm c.before.before c.in-7.is c.little_than.ensures)
    (λ c. arm c.before.before c.in-8.is c.equal.ensures)
    (λ c. arm c.before.before c.in-9.is c.not_equal.ensures)
    (λ c. arm c.before.before c.in-10.is c.neg.ensures)
    (λ c. arm c.before.before c.in-11.is c.abs.ensures)
    (λ c. arm c.before.before c.in-12.is c.not.ensures)
    (λ c. arm c.before.before c.in-13.is c.and.ensures)
    (λ c. arm c.before.before c.in-14.is c.or.ensures)
    (λ c. arm c.before.before c.in-15.is c.xor.ensures)
    (λ c. arm c.before.before c.in-16.is c.sign.ensures)
    (λ c. arm c.before.before c.in-17.is c.if_else.ensures)
    (λ c. arm c.before.before c.in-18.is c.round.ensures)
    (λ c. arm c.before.before c.in-19.is c.root.ensures)
    (λ c. arm c.before.before c.in-20.is c.mul_add.ensures)
    (λ c. arm c.before.before c.in-21.is c.complex_plus.ensures.0)
    (λ c. arm c.before.before c.in-22.is c.complex_plus-in-22.ensures.1)
    (λ c. arm c.before.before c.in-23.is c.complex_minus.ensures.0)
    (λ c. arm c.before.before c.in-24.is c.complex_minus-in-24.ensures.1)
    (λ c. arm c.before.before c.in-25.is c.complex_times.ensures.0)
    (λ c. arm c.before.before c.in-26.is c.complex_times-in-26.ensures.1)
    (λ c. arm c.before.before c.in-27.is c.complex_divide.ensures.0)
    (λ c. arm c.before.before c.in-28.is c.complex_divide-in-28.ensures.1)
    (λ c. arm c.before.before c.in-29.is c.floor.ensures)
    (λ c. arm c.before.before c.in-30.is c.ceiling.ensures)
    (λ c. arm c.before.before c.in-31.is c.trunc.ensures)
    (λ c. arm c.before.before c.in-32.is c.is_zero.ensures)
    (λ c. arm c.before.before c.in-33.is c.greater_than_equal.ensures)
    (λ c. arm c.before.before c.in-34.is c.little_than_equal.ensures)
    (λ c. past c.before (others-le _ 35 c.in_default.in_default-own.rest)))
