-- Divide in each mode, and the operations of LoadMath and LoadConstMath.
use mathlib.Core.Path.{◌≡◌, refl}
use mathlib.Core.Bool.{Bool, true, false}
use mathlib.Core.List.{List}
use Prim.Native.Nat.{ℕ, ◌≤◌, ◌<◌}
use lib.ListN.{length}
use lib.Dec.{lit<, lit≤, eqb}
use Rattle.mir.specs.declared.ops.ArithOp.{ArithOp}
use Rattle.mir.specs.declared.records.Work.{Work}
use Rattle.mir.specs.Register.{re, im, Temp}
use Rattle.sheet.specs.declared.setup.Mode.{Mode}
use Rattle.lowering.specs.Realness.{is_real_reg}
use Rattle.lowering.specs.Lines.{divide_lines}
use Rattle.lowering.specs.Complexifier as c
use Rattle.lowering.specs.Complexifier.{State, then}
use Rattle.lowering.specs.Rerun.{rerun_arith}
use Rattle.leftovers.proofs.Names.{rename, good}
use Rattle.leftovers.proofs.Stretch.{join}
use Rattle.leftovers.proofs.Methods.{Keeps, settled, stable-divide-keeps, fmov-keeps, plus-keeps, minus-keeps, times-keeps}
use Rattle.leftovers.proofs.Root.{frame_any}

module _ (k : List ℕ) (B : List Work) (Z : ℕ → Type 0) (H : Type 0) (s : State) (d a b : ℕ) (hd : d < 32) (ha : a < 32) (hb : b < 32) where
  -- mode 2, into Temp: the Divide into Ret, then the move; neither is a general register
  minding-keeps : (t x : Bool) → is_real_reg s.real a ≡ x → is_real_reg s.real b ≡ false
      → length (c.minding_divide t x d a b s).after.consts ≤ length k → Keeps k B (λ r. r ≡ d) Z H s (c.minding_divide t x d a b s)
  unfolding c.minding_divide then
  minding-keeps true x ex ey hk =
      join (frame_any (λ r. r ≡ d) 30 (lit≤ tt) (stable-divide-keeps k B Z H s 30 a b (lit< tt) ha hb x ex ey hk))
      (frame_any (λ r. r ≡ d) 31 (lit≤ tt) (fmov-keeps k B Z H (c.stable_divide x 30 a b s).after 31 30 (lit< tt) (lit< tt)))
  minding-keeps false x ex ey hk = stable-divide-keeps k B Z H s d a b hd ha hb x ex ey hk

  divide-by-keeps : (m : Mode) (x y : Bool) → is_real_reg s.real a ≡ x → is_real_reg s.real b ≡ y
      → length (c.divide_by m x y d a b s).after.consts ≤ length k → Keeps k B (λ r. r ≡ d) Z H s (c.divide_by m x y d a b s)
  unfolding c.divide_by divide_lines good rename re im
  divide-by-keeps m true true ex ey hk = settled k B Z H s d a b hd ha hb true true true ex ey (divide_lines true true 0 1 2) _ (tt, refl, tt)
  divide-by-keeps m false true ex ey hk = settled k B Z H s d a b hd ha hb false true false ex ey (divide_lines false true 0 1 2) _ (tt, refl, tt)
  divide-by-keeps Mode.Plain true false ex ey hk =
      settled k B Z H s d a b hd ha hb true false false ex ey (divide_lines true false 0 1 2) _ (tt, refl, tt)
  divide-by-keeps Mode.Plain false false ex ey hk =
      settled k B Z H s d a b hd ha hb false false false ex ey (divide_lines false false 0 1 2) _ (tt, refl, tt)
  divide-by-keeps Mode.Stable x false ex ey hk = stable-divide-keeps k B Z H s d a b hd ha hb x ex ey hk
  divide-by-keeps Mode.Minding x false ex ey hk = minding-keeps (eqb d Temp) x ex ey hk

  pub divide-keeps : (m : Mode) → length (c.divide m d a b s).after.consts ≤ length k
      → Keeps k B (λ r. r ≡ d) Z H s (c.divide m d a b s)
  unfolding c.divide
  divide-keeps m hk = divide-by-keeps m (is_real_reg s.real a) (is_real_reg s.real b) refl refl hk

  pub arith-keeps : (m : Mode) (op : ArithOp) → length (rerun_arith m op d a b s).after.consts ≤ length k
      → Keeps k B (λ r. r ≡ d) Z H s (rerun_arith m op d a b s)
  unfolding rerun_arith
  arith-keeps m ArithOp.Plus hk = plus-keeps k B Z H s d a b hd ha hb
  arith-keeps m ArithOp.Minus hk = minus-keeps k B Z H s d a b hd ha hb
  arith-keeps m ArithOp.Times hk = times-keeps k B Z H s d a b hd ha hb
  arith-keeps m ArithOp.Divide hk = divide-keeps m hk
