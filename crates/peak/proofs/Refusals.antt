-- What is given where a run is turned away, where it is not, and which number tells. Assumes nothing.
use Prim.Native.Nat.{ℕ}
use mathlib.Core.Path.{◌≡◌, refl, sym, ap, ◌∙◌}
use mathlib.Core.Bool.{Bool, true, false, ◌||◌, cond}
use mathlib.Core.List.{List}
use native.Mathlib.Omega.{arith}
use lib.ListN.{length}
use Rattle.peak.specs.Peak.{refused, number, after, filled}

pub or_left : {a : Bool} (b : Bool) → a ≡ true → a || b ≡ true
or_left b e = ap (λ t. t || b) e

pub or_right : (a : Bool) {b : Bool} → b ≡ true → a || b ≡ true
or_right true e = refl
or_right false e = e

pub neither : {a b : Bool} → a ≡ false → b ≡ false → a || b ≡ false
neither {b = b} p q = ap (λ t. t || b) p ∙ q

module _ (run : List ℕ) (w : ℕ) (out : List ℕ) where
  pub turned-away : refused run w out ≡ true → (12 ≡ number run w out) × (out ≡ after run w out)
  unfolding number after
  turned-away e = (sym (ap (λ t. cond t 12 0) e), sym (ap (λ t. cond t out (filled run w (length run) out)) e))

  pub taken : {out' : List ℕ} → refused run w out ≡ false → out' ≡ filled run w (length run) out
      → (0 ≡ number run w out) × (out' ≡ after run w out)
  unfolding number after
  taken e f = (sym (ap (λ t. cond t 12 0) e), f ∙ sym (ap (λ t. cond t out (filled run w (length run) out)) e))

  pub away-told : {n : ℕ} → n ≡ number run w out → (n ≡ 0 → ⊥) → (refused run w out ≡ true) × (n ≡ 12)
  unfolding number
  away-told {n} = told (refused run w out)
    where
      told : (t : Bool) → n ≡ cond t 12 0 → (n ≡ 0 → ⊥) → (t ≡ true) × (n ≡ 12)
      told true e h = (refl, e)
      told false e h = absurd (h e)

  pub taken-told : {n : ℕ} → n ≡ number run w out → n ≡ 0 → refused run w out ≡ false
  unfolding number
  taken-told {n} = told (refused run w out)
    where
      told : (t : Bool) → n ≡ cond t 12 0 → n ≡ 0 → t ≡ false
      told true e h = absurd (omega arith)
      told false e h = refl
