-- Half in mode 2, and in the Rust's modes.
use Prim.Native.Nat.{ℕ}
use mathlib.Core.Path.{◌≡◌, sym, subst}
use mathlib.Core.Bool.{Bool, true, false}
use mathlib.Core.List.{map}
use Rattle.mir.specs.declared.records.Record.{Record}
use Rattle.mir.specs.declared.writer.Writer.{Writer}
use Rattle.sheet.specs.declared.setup.Mode.{Mode}
use Rattle.sheet.specs.Setup.{is_minding}
use Rattle.lowering.specs.Realness.{is_real_reg, set_reg}
use Rattle.lowering.specs.Lines.{half_lines, minding_half_lines}
use Rattle.lowering.specs.Complexifier.{copied, minding_half, half_by, half}
use Rattle.mir.specs.Writing.{Lists}
use Rattle.complexifier.specs.declared.state.Complexifier.{Complexifier}
use Rattle.complexifier.specs.Does.{Does, recorded, listing, made₁}

module _ {b c : Writer} {s u : Complexifier} (m : Mode) (d a : ℕ) {t : Bool} where
  by_mode : t ≡ is_minding m → Does b s (half_by t d a) c u → Does b s (half m d a) c u
  unfolding half
  by_mode e p = subst (λ t. Does b s (half_by t d a) c u) e p

  pub minding : {x : Bool} → t ≡ true → t ≡ is_minding m → x ≡ is_real_reg s.real a → Lists b (map Record.Work (minding_half_lines x d a)) c
      → u ≡ recorded s (set_reg s.real d (is_real_reg s.real a))
      → Does b s (half m d a) c u
  unfolding half_by minding_half
  minding h e f p g = by_mode e (subst (λ t. Does b s (half_by t d a) c u) (sym h) (made₁ minding_half_lines copied d a f p g))

  pub as-rust : t ≡ false → t ≡ is_minding m → s ≡ u → Lists b (map Record.Work (half_lines d a)) c → Does b s (half m d a) c u
  unfolding half_by
  as-rust h e q p =
      by_mode e (subst (λ t. Does b s (half_by t d a) c u) (sym h) (listing (map Record.Work (half_lines d a)) (λ ρ. ρ) p (sym q)))
