-- Mov: of a register to itself it lists nothing.
use Prim.Native.Nat.{ℕ}
use mathlib.Core.Path.{◌≡◌, sym, ap, subst}
use mathlib.Core.Bool.{Bool, cond}
use borrow.Author.Tests.{eq-eqb, ne_eqb}
use lib.Dec.{eqb}
use Rattle.mir.specs.declared.writer.Writer.{Writer}
use Rattle.lowering.specs.Complexifier.{State, Out, unlisted, fmov}
use Rattle.complexifier.specs.declared.state.Complexifier.{Complexifier}
use Rattle.complexifier.specs.Does.{Does}

abbrev chosen : ℕ → ℕ → Bool → State → Out
chosen d a x s = cond x (unlisted s) (fmov d a s)

module _ {b c : Writer} {s t : Complexifier} (d a : ℕ) where
  pub to-itself : d ≡ a → Does b s unlisted c t → Does b s (chosen d a (eqb d a)) c t
  to-itself e p = subst (λ f. Does b s f c t) (sym (ap (chosen d a) (eq-eqb d a e))) p

  pub to-another : (d ≡ a → ⊥) → Does b s (fmov d a) c t → Does b s (chosen d a (eqb d a)) c t
  to-another e p = subst (λ f. Does b s f c t) (sym (ap (chosen d a) (ne_eqb d a e))) p
