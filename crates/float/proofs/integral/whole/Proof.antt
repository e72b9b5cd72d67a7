-- `float::integral::whole` meets its contract, in each direction. Assumes nothing.
use mathlib.Core.Path.{◌≡◌, refl, ◌∙◌}
use mathlib.Core.Bool.{Bool, true, false, not, cond}
use Prim.Native.Nat.{ℕ}
use borrow.Author.Rules.{rules}
use Rattle.float.proofs.integral.whole.Statement.{statement}
use Rattle.float.proofs.integral.whole.Tie as tie

turned : (s : Bool) (n k : ℕ) → cond (not s) n k ≡ cond s k n
turned true n k = refl
turned false n k = refl

pub whole_spec : {M : Type 1} → statement M
whole_spec =
    tie.close
    (tie.spec
    (λ c. search rules)
    (λ c κs. search rules)
    (λ c. search rules)
    (λ c κs. search rules)
    (λ c. search rules)
    (λ c κs. search rules)
    (λ c. search rules)
    (λ c κs. search rules)
    (λ c. simp c.in-TiesToEven.is c.nearest_whole.ensures)
    (λ c. simp c.in-TowardNegative.is c.directed.ensures)
    (λ c. simp c.in-TowardPositive.is (c.directed-in-TowardPositive.ensures ∙ turned c.args.neg _ _))
    (λ c. simp c.in-TowardZero.is c.directed-in-TowardZero.ensures))
