-- Which words a working record fills, by its bytes.
use Prim.Native.Nat.{ℕ, suc, ◌+◌}
use native.Mathlib.Omega.{arith}
use mathlib.Core.Path.{◌≡◌, ap, ◌∙◌}
use mathlib.Core.Bool.{true}
use mathlib.Core.List.{List}
use mathlib.Core.Option.{none, some}
use borrow.Author.Tests.{ne_eqb}
use Rattle.mir.specs.declared.records.Loc.{Loc}
use Rattle.mir.specs.declared.records.Work.{Work}
use Rattle.mir.specs.Operation.{uni_ops, bin_ops, arith_ops, fused_ops, taken}
use Rattle.mir.specs.Read.{Read, got, refused}
use Rattle.mir.specs.Field.{byte_at, u16_at, place_at}
use Rattle.mir.specs.Takes.{takes_uni, takes_bin, takes_arith, takes_fused}
use Rattle.player_machine.specs.Machine.{place}
use Rattle.player_machine.specs.Draws.{fills}
use Rattle.player_work.specs.Encoded.{of_part, save_encoded, save_complex_encoded, encoded}
use Rattle.look.specs.declared.show.Filled.{Filled}
use Rattle.look.specs.Standing.{ends, FillsOf}

clash : {X : Type 0} {A : Type 0} {a : A} → none ≡ some a → X
clash e = let z : ◌≡◌ {A = ℕ} 0 1 = cc in absurd (omega arith)

same_some : {A : Type 0} {a b : A} → some a ≡ some b → a ≡ b
same_some e = cc

-- the work that bytes encode, with an operation or a place that is read, or without
made : {A : Type 0} {r : Filled} (x : Read A) (f : A → Work) → ((a : A) → r ≡ ends (fills (f a))) → FillsOf (of_part x f) r
made (got a) f h w e = h a ∙ ap (λ w. ends (fills w)) (same_some e)
made (refused n) f h w e = clash e

made_of : {r : Filled} (x : Work) → r ≡ ends (fills x) → FillsOf (some x) r
made_of x h w e = h ∙ ap (λ w. ends (fills w)) (same_some e)

abbrev both : ℕ → Filled
both i = record { first = i; last = i }

abbrev pair : ℕ → ℕ → Filled
pair i j = record { first = i; last = j }

-- kind by kind
module _ (s : List ℕ) {r : Filled} {b : ℕ} where
  pub uni-fills : u16_at s 2 ≡ 1 → b ≡ byte_at s 5 → r ≡ both b → FillsOf (encoded s) r
  unfolding encoded
  uni-fills k e h w q = made (taken (takes_uni true) uni_ops (byte_at s 4)) (λ op. Work.Uni op (byte_at s 5) (byte_at s 6)) (λ a. h ∙ ap both e) w (simp k at q)

  pub bi-fills : u16_at s 2 ≡ 2 → b ≡ byte_at s 5 → r ≡ both b → FillsOf (encoded s) r
  unfolding encoded
  bi-fills k e h w q = made (taken (takes_bin true) bin_ops (byte_at s 4)) (λ op. Work.Bi op (byte_at s 5) (byte_at s 6) (byte_at s 7)) (λ a. h ∙ ap both e) w (simp k at q)

  pub mov-fills : u16_at s 2 ≡ 3 → b ≡ byte_at s 4 → r ≡ both b → FillsOf (encoded s) r
  unfolding encoded
  mov-fills k e h w q = made_of (Work.Mov (byte_at s 4) (byte_at s 5)) (h ∙ ap both e) w (simp k at q)

  pub load-fills : u16_at s 2 ≡ 4 → b ≡ byte_at s 4 → r ≡ both b → FillsOf (encoded s) r
  unfolding encoded
  load-fills k e h w q = made (place_at s 5) (λ loc. Work.Load (byte_at s 4) loc) (λ a. h ∙ ap both e) w (simp k at q)

  pub load-const-fills : u16_at s 2 ≡ 6 → b ≡ byte_at s 4 → r ≡ both b → FillsOf (encoded s) r
  unfolding encoded
  load-const-fills k e h w q = made_of (Work.LoadConst (byte_at s 4) (u16_at s 5)) (h ∙ ap both e) w (simp k at q)

  pub fused-fills : u16_at s 2 ≡ 7 → b ≡ byte_at s 5 → r ≡ both b → FillsOf (encoded s) r
  unfolding encoded
  fused-fills k e h w q = made (taken (takes_fused true) fused_ops (byte_at s 4)) (λ op. Work.Fused op (byte_at s 5) (byte_at s 6) (byte_at s 7) (byte_at s 8)) (λ a. h ∙ ap both e) w (simp k at q)

  pub if-else-fills : u16_at s 2 ≡ 8 → b ≡ byte_at s 4 → r ≡ both b → FillsOf (encoded s) r
  unfolding encoded
  if-else-fills k e h w q = made (place_at s 7) (λ loc. Work.IfElse (byte_at s 4) (byte_at s 5) (byte_at s 6) loc) (λ a. h ∙ ap both e) w (simp k at q)

module _ (s : List ℕ) {r : Filled} {b d : ℕ} where
  pub load-complex-fills : u16_at s 2 ≡ 11 → b ≡ byte_at s 4 → d ≡ byte_at s 5 → r ≡ pair b d → FillsOf (encoded s) r
  unfolding encoded
  load-complex-fills k e f h w q =
      made (place_at s 6) (λ loc. Work.LoadComplex (byte_at s 4) (byte_at s 5) loc) (λ a. h ∙ (λ i. pair (e i) (f i))) w (simp k at q)

  pub complex-bi-fills : u16_at s 2 ≡ 13 → b ≡ byte_at s 5 → d ≡ byte_at s 6 → r ≡ pair b d → FillsOf (encoded s) r
  unfolding encoded
  complex-bi-fills k e f h w q =
      made (taken takes_arith arith_ops (byte_at s 4))
      (λ op. Work.ComplexBi op (byte_at s 5) (byte_at s 6) (byte_at s 7) (byte_at s 8) (byte_at s 9) (byte_at s 10))
      (λ a. h ∙ (λ i. pair (e i) (f i))) w (simp k at q)

module _ (s : List ℕ) {r : Filled} where
  pub save-fills : u16_at s 2 ≡ 5 → FillsOf (save_encoded s) r → FillsOf (encoded s) r
  unfolding encoded
  save-fills k h w q = h w (simp k at q)

  pub save-complex-fills : u16_at s 2 ≡ 12 → FillsOf (save_complex_encoded s) r → FillsOf (encoded s) r
  unfolding encoded
  save-complex-fills k h w q = h w (simp k at q)

  -- a place that was read
  pub save-at : {p : Loc} {i : ℕ} → got p ≡ place_at s 5 → i ≡ place p → r ≡ both i → FillsOf (save_encoded s) r
  unfolding save_encoded
  save-at {p} e f h w q = made_of (Work.Save (byte_at s 4) p) (h ∙ ap both f) w (simp (← e) at q)

  pub save-bad : {n : ℕ} → refused n ≡ place_at s 5 → FillsOf (save_encoded s) r
  unfolding save_encoded
  save-bad e w q = clash (simp (← e) at q)

  pub save-complex-at : {p : Loc} {i : ℕ} → got p ≡ place_at s 6 → i ≡ place p → r ≡ pair i (i + 1) → FillsOf (save_complex_encoded s) r
  unfolding save_complex_encoded
  save-complex-at {p} {i} e f h w q =
      let g : i + 1 ≡ suc (place p) = omega (arith, f) in
      made_of (Work.SaveComplex (byte_at s 4) (byte_at s 5) p) (h ∙ (λ j. pair (f j) (g j))) w (simp (← e) at q)

  pub save-complex-bad : {n : ℕ} → refused n ≡ place_at s 6 → FillsOf (save_complex_encoded s) r
  unfolding save_complex_encoded
  save-complex-bad e w q = clash (simp (← e) at q)

  -- no other kind works
  pub other-fills : {k : ℕ} → k ≡ u16_at s 2 → (k ≡ 1 → ⊥) → (k ≡ 2 → ⊥) → (k ≡ 3 → ⊥) → (k ≡ 4 → ⊥) → (k ≡ 5 → ⊥) → (k ≡ 6 → ⊥)
      → (k ≡ 7 → ⊥) → (k ≡ 8 → ⊥) → (k ≡ 11 → ⊥) → (k ≡ 12 → ⊥) → (k ≡ 13 → ⊥) → FillsOf (encoded s) r
  unfolding encoded
  other-fills e a1 a2 a3 a4 a5 a6 a7 a8 a11 a12 a13 w q =
      clash
      (simp (← e, ne_eqb _ _ a1, ne_eqb _ _ a2, ne_eqb _ _ a3, ne_eqb _ _ a4, ne_eqb _ _ a5, ne_eqb _ _ a6, ne_eqb _ _ a7, ne_eqb _ _ a8, ne_eqb _ _ a11, ne_eqb _ _ a12, ne_eqb _ _ a13) at q)
