-- The tests of an instruction (10, 6, 11, 7), taken apart once: none of them holds, or the first that does gives its number.
use Prim.Native.Nat.{ℕ, ◌+◌, ◌≤◌, ◌<◌}
use mathlib.Core.Path.{◌≡◌, refl, sym, ap, ◌∙◌}
use mathlib.Core.Bool.{Bool, true, false, cond, true≢false}
use mathlib.Core.List.{List, [], ◌∷◌}
use native.Mathlib.Omega.{arith}
use borrow.Author.Tests.{lt-ltb, le-ltb, ltb-false}
use lib.ListN.{length}
use lib.Dec.{ltb}
use Rattle.mir.specs.declared.records.Instruction.{Instruction}
use Rattle.mir.specs.Encode.{encode_all}
use Rattle.sheet.specs.declared.setup.Mode.{Mode}
use Rattle.sheet.specs.Setup.{is_stable}
use Rattle.lowering.specs.declared.realness.Realness.{Realness}
use Rattle.lowering.specs.Complexifier.{State}
use Rattle.lowering.specs.Rerun.{rerun}
use Rattle.lowering.specs.Labels.{Role, role, Standing, misplaced, unequal}
use Rattle.lowering.specs.Lower.{barred, tests, by_first}

-- no test is both
pub no : {X : Type 0} → true ≡ false → X
no e = absurd (true≢false e)

-- 11 is a label's, and no label is barred
unbarred : (b : Standing) (stable : Bool) (i : Instruction) (ρ : Realness) → unequal (role i) b ρ ≡ true → barred stable i ρ ≡ false
unfolding role unequal barred
unbarred b stable Instruction.Nop ρ e = refl
unbarred b stable (Instruction.Uni op d a) ρ e = no (sym e)
unbarred b stable (Instruction.Bi op d x y) ρ e = no (sym e)
unbarred b stable (Instruction.Mov d a) ρ e = refl
unbarred b stable (Instruction.Load d p) ρ e = refl
unbarred b stable (Instruction.Save a p) ρ e = refl
unbarred b stable (Instruction.LoadConst d idx) ρ e = refl
unbarred b stable (Instruction.Fused op d x y k) ρ e = no (sym e)
unbarred b stable (Instruction.IfElse d x y p) ρ e = refl
unbarred b stable (Instruction.LoadMath op d a p) ρ e = no (sym e)
unbarred b stable (Instruction.LoadConstMath op d a idx) ρ e = refl
unbarred b stable (Instruction.Label l) ρ e = refl
unbarred b stable (Instruction.Branch l) ρ e = refl
unbarred b stable (Instruction.BranchIf c l x) ρ e = refl

-- ---- the tests of labels

-- 10 before 11, or neither
abbrev pub ten_or_eleven : Bool → Bool → ℕ
ten_or_eleven w y = cond w 10 (cond y 11 0)

abbrev pub label_refusal : Role → Standing → List ℕ → Realness → ℕ
label_refusal i b behind ρ = ten_or_eleven (misplaced i b behind) (unequal i b ρ)

pub neither : (i : Role) (b : Standing) (behind : List ℕ) (ρ : Realness) → label_refusal i b behind ρ ≡ 0
    → (misplaced i b behind ≡ false) × (unequal i b ρ ≡ false)
neither i b behind ρ e = go (misplaced i b behind) (unequal i b ρ) e
  where
    go : (w y : Bool) → ten_or_eleven w y ≡ 0 → (w ≡ false) × (y ≡ false)
    go true y e = absurd (omega arith)
    go false true e = absurd (omega arith)
    go false false e = (refl, refl)

-- ---- all four

module _ (mode : Mode) (room : ℕ) (i : Instruction) (b : Standing) (behind : List ℕ) (written : ℕ) (s : State) where
  -- the bytes with the instruction's own
  abbrev bytes : ℕ
  bytes = written + length (encode_all (rerun mode i s).records)

  -- none holds
  pub record Admitted : Type 0 where
    pub placed : misplaced (role i) b behind ≡ false
    pub allowed : barred (is_stable mode) i s.real ≡ false
    pub equal : unequal (role i) b s.real ≡ false
    pub fits : bytes ≤ room

  -- what holds of any number but 0, and of going on where none holds, holds of the tests
  pub by_tests : (P : ((A : Type 0) → (ℕ → A) → A → A) → Type 0) → ((n : ℕ) → (n ≡ 0 → ⊥) → P (λ A refused on. refused n))
      → (Admitted → P (λ A refused on. on)) → P (λ A refused on. by_first (tests mode room i b behind written s) refused on)
  by_tests P number goes =
      go (misplaced (role i) b behind) (barred (is_stable mode) i s.real) (unequal (role i) b s.real) (ltb room bytes) refl refl refl refl
    where
      go : (w x y z : Bool) → misplaced (role i) b behind ≡ w → barred (is_stable mode) i s.real ≡ x → unequal (role i) b s.real ≡ y
          → ltb room bytes ≡ z → P (λ A refused on. by_first ((w, 10) ∷ (x, 6) ∷ (y, 11) ∷ (z, 7) ∷ []) refused on)
      go true x y z p q u t = number 10 (λ e. omega arith)
      go false true y z p q u t = number 6 (λ e. omega arith)
      go false false true z p q u t = number 11 (λ e. omega arith)
      go false false false true p q u t = number 7 (λ e. omega arith)
      go false false false false p q u t = goes (record { placed = p; allowed = q; equal = u; fits = ltb-false room _ t })

  module _ {A : Type 0} (refused : ℕ → A) (on : A) where
    -- none
    pub goes_on : Admitted → by_first (tests mode room i b behind written s) refused on ≡ on
    goes_on a = rw (a.placed, a.allowed, a.equal, le-ltb room bytes a.fits) refl

    -- 10 or 11
    pub refused-label : (n : ℕ) → n ≡ label_refusal (role i) b behind s.real → (n ≡ 0 → ⊥)
        → by_first (tests mode room i b behind written s) refused on ≡ refused n
    refused-label n e h =
        go (misplaced (role i) b behind) (barred (is_stable mode) i s.real) (unequal (role i) b s.real) (ltb room bytes)
        (unbarred b (is_stable mode) i s.real) (λ z. h (e ∙ z))
        ∙ ap refused (sym e)
      where
        go : (w x y z : Bool) → (y ≡ true → x ≡ false) → (ten_or_eleven w y ≡ 0 → ⊥)
            → by_first ((w, 10) ∷ (x, 6) ∷ (y, 11) ∷ (z, 7) ∷ []) refused on ≡ refused (ten_or_eleven w y)
        go true x y z u h = refl
        go false x false z u h = absurd (h refl)
        go false true true z u h = no (u refl)
        go false false true z u h = refl

    module _ (m : misplaced (role i) b behind ≡ false) where
      -- 6
      pub refused-barred : barred (is_stable mode) i s.real ≡ true → by_first (tests mode room i b behind written s) refused on ≡ refused 6
      refused-barred e = rw (m, e) refl

      -- 7
      pub refused-long : barred (is_stable mode) i s.real ≡ false → unequal (role i) b s.real ≡ false
          → room < bytes → by_first (tests mode room i b behind written s) refused on ≡ refused 7
      refused-long e u h = rw (m, e, u, lt-ltb room bytes h) refl
