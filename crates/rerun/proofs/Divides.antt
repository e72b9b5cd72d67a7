-- `divide` by a real register, and by a complex one in each mode.
use Prim.Native.Nat.{ℕ}
use mathlib.Core.Path.{◌≡◌, sym, subst}
use mathlib.Core.Bool.{Bool, true, false}
use mathlib.Core.List.{List, map}
use lib.Dec.{eqb}
use Rattle.mir.specs.declared.records.Record.{Record}
use Rattle.mir.specs.declared.writer.Writer.{Writer}
use Rattle.mir.specs.Register.{Ret, Temp}
use Rattle.sheet.specs.declared.setup.Mode.{Mode}
use Rattle.lowering.specs.Realness.{set_reg}
use Rattle.lowering.specs.Lines.{divide_lines}
use Rattle.lowering.specs.Complexifier.{divide_by, stable_divide, minding_divide, fmov}
use Rattle.mir.specs.Writing.{Lists}
use Rattle.complexifier.specs.declared.state.Complexifier.{Complexifier}
use Rattle.complexifier.specs.Does.{Does, recorded, made}
use Rattle.rerun.specs.declared.output.Added.{Added}
use Rattle.rerun.specs.Adds.{Adds, ◌◂▸◌}

module _ {b c : Writer} {s t : Complexifier} (x : Bool) (d a₁ a₂ : ℕ) where
  pub by-real : (m : Mode) → Lists b (map Record.Work (divide_lines x true d a₁ a₂)) c → t ≡ recorded s (set_reg s.real d x)
      → Does b s (divide_by m x true d a₁ a₂) c t
  unfolding divide_by
  by-real m p e = made (divide_lines x true d a₁ a₂) d x p e

  pub by-complex : Lists b (map Record.Work (divide_lines x false d a₁ a₂)) c → t ≡ recorded s (set_reg s.real d false)
      → Does b s (divide_by Mode.Plain x false d a₁ a₂) c t
  unfolding divide_by
  by-complex p e = made (divide_lines x false d a₁ a₂) d false p e

pub by_stable : {b c : Writer} {s t : Complexifier} {k : List ℕ} {a : Added} (x : Bool) (d a₁ a₂ : ℕ) → Adds b s k (stable_divide x d a₁ a₂) c t a
    → Adds b s k (divide_by Mode.Stable x false d a₁ a₂) c t a
unfolding divide_by
by_stable x d a₁ a₂ p = p

pub by_minding : {b c : Writer} {s t : Complexifier} {k : List ℕ} {a : Added} (x : Bool) (d a₁ a₂ : ℕ)
    → Adds b s k (minding_divide (eqb d Temp) x d a₁ a₂) c t a
    → Adds b s k (divide_by Mode.Minding x false d a₁ a₂) c t a
unfolding divide_by
by_minding x d a₁ a₂ p = p

-- into Temp it is one into Ret, and a move; into another register stable mode's
pub into-temp : {b c v : Writer} {s t u : Complexifier} {k : List ℕ} {a : Added} (x : Bool) (d a₁ a₂ : ℕ) → eqb d Temp ≡ true
    → Adds b s k (stable_divide x Ret a₁ a₂) c t a
    → Does c t (fmov Temp Ret) v u
    → Adds b s k (minding_divide (eqb d Temp) x d a₁ a₂) v u a
unfolding minding_divide
into-temp {b = b} {v = v} {s = s} {u = u} {k = k} {a = a} x d a₁ a₂ e p m = subst (λ t. Adds b s k (minding_divide t x d a₁ a₂) v u a) (sym e) (◌◂▸◌ p m)

pub into_other : {b c : Writer} {s t : Complexifier} {k : List ℕ} {a : Added} (x : Bool) (d a₁ a₂ : ℕ) → eqb d Temp ≡ false
    → Adds b s k (stable_divide x d a₁ a₂) c t a
    → Adds b s k (minding_divide (eqb d Temp) x d a₁ a₂) c t a
unfolding minding_divide
into_other {b} {c} {s} {t} {k} {a} x d a₁ a₂ e p = subst (λ y. Adds b s k (minding_divide y x d a₁ a₂) c t a) (sym e) p
