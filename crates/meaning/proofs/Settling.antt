-- Without a Half of a real register into a complex one, the words that such a Half would take do not matter.
use Prim.Native.Nat.{ℕ, zero, suc, ◌<◌}
use mathlib.Core.Path.{◌≡◌, refl, sym, ap, ◌∙◌, subst}
use mathlib.Core.Bool.{Bool, true, false, cond, true≢false}
use mathlib.Core.List.{List, [], ◌∷◌}
use mathlib.Core.Option.{some}
use native.Mathlib.Omega.{arith}
use lib.ListN.{length, get_or}
use Rattle.mir.specs.declared.ops.UniOp.{UniOp}
use Rattle.mir.specs.declared.records.Instruction.{Instruction}
use Rattle.sheet.specs.declared.setup.Mode.{Mode}
use Rattle.sheet.specs.Setup.{is_minding}
use Rattle.float.specs.Word as Word
use Rattle.sheet.proofs.Ranges.{InRange}
use Rattle.player_machine.specs.Machine.{Way, going, seeking}
use Rattle.lowering.specs.Realness.{is_real_reg}
use Rattle.leftovers.specs.Leftovers.{Sheet, sheet_of, real_at}
use Rattle.leftovers.proofs.Instructions.{AllIn}
use Rattle.leftovers.proofs.Sheets.{sound}
use Rattle.entries.specs.Entries.{left}
use Rattle.entries.proofs.Entered.{entered}
use Rattle.meaning.specs.Value.{Value, R, C, isR, each, of_one}
use Rattle.meaning.specs.Means as Means
use Rattle.meaning.specs.Means.{Values, put, means, goes, is_label, walked, stands, halved}
use Rattle.meaning.specs.Preserved.{values_of, Preserves}
use Rattle.meaning.specs.Settled.{Settled}
use Rattle.meaning.proofs.Tidied.{is_real, in_at}
use Rattle.meaning.proofs.Theorem.{preserved}

-- but in mode 2, an instruction is no such Half where the values are X
abbrev Unmixing : Mode → Instruction → Values → Type 0
Unmixing m i X = is_minding m ≡ false → (d a : ℕ) → i ≡ Instruction.Uni UniOp.Half d a → isR (X.reg a) ≡ true → isR (X.reg d) ≡ true

halved_so : (h h' : ℕ) (z v : Value) → (isR v ≡ true → isR z ≡ true) → halved h z v ≡ halved h' z v
unfolding halved
halved_so h h' (R z) v t = refl
halved_so h h' (C z z') (C x y) t = refl
halved_so h h' (C z z') (R x) t = absurd (true≢false (sym (t refl)))

module _ (m : Mode) (k : List ℕ) where
  half-so : (q : Bool) (h h' d a : ℕ) (X : Values) → (q ≡ false → isR (X.reg a) ≡ true → isR (X.reg d) ≡ true)
      → cond q (put d (each Word.half (X.reg a)) X) (put d (halved h (X.reg d) (X.reg a)) X)
      ≡ cond q (put d (each Word.half (X.reg a)) X) (put d (halved h' (X.reg d) (X.reg a)) X)
  half-so true h h' d a X t = refl
  half-so false h h' d a X t = ap (λ v. put d v X) (halved_so h h' (X.reg d) (X.reg a) (t refl))

  uni-so : (h h' : ℕ) (op : UniOp) (d a : ℕ) (X : Values) → (is_minding m ≡ false → op ≡ UniOp.Half → isR (X.reg a) ≡ true → isR (X.reg d) ≡ true)
      → Means.uni m h op d a X ≡ Means.uni m h' op d a X
  unfolding Means.uni of_one
  uni-so h h' UniOp.Neg d a X t = refl
  uni-so h h' UniOp.Not d a X t = refl
  uni-so h h' UniOp.Abs d a X t = refl
  uni-so h h' UniOp.Root d a X t = refl
  uni-so h h' UniOp.RealRoot d a X t = refl
  uni-so h h' UniOp.Recip d a X t = refl
  uni-so h h' UniOp.Round d a X t = refl
  uni-so h h' UniOp.Floor d a X t = refl
  uni-so h h' UniOp.Ceiling d a X t = refl
  uni-so h h' UniOp.Trunc d a X t = refl
  uni-so h h' UniOp.Real d a X t = refl
  uni-so h h' UniOp.Imaginary d a X t = refl
  uni-so h h' UniOp.Conjugate d a X t = refl
  uni-so h h' UniOp.Half d a X t = half-so (is_minding m) h h' d a X (λ q. t q refl)
  uni-so h h' UniOp.IsZero d a X t = refl
  uni-so h h' UniOp.IsNotZero d a X t = refl
  uni-so h h' UniOp.Sign d a X t = refl
  uni-so h h' UniOp.Abs2 d a X t = refl
  uni-so h h' UniOp.TimesI d a X t = refl
  uni-so h h' UniOp.TimesNegI d a X t = refl

  means-so : (h h' : ℕ) (i : Instruction) (X : Values) → Unmixing m i X → means m k h i X ≡ means m k h' i X
  unfolding means
  means-so h h' Instruction.Nop X t = refl
  means-so h h' (Instruction.Uni op d a) X t = uni-so h h' op d a X (λ q e. t q d a (ap (λ op. Instruction.Uni op d a) e))
  means-so h h' (Instruction.Bi op d a b) X t = refl
  means-so h h' (Instruction.Mov d a) X t = refl
  means-so h h' (Instruction.Load d p) X t = refl
  means-so h h' (Instruction.Save a p) X t = refl
  means-so h h' (Instruction.LoadConst d i) X t = refl
  means-so h h' (Instruction.Fused op d a b c) X t = refl
  means-so h h' (Instruction.IfElse d a b p) X t = refl
  means-so h h' (Instruction.LoadMath op d a p) X t = refl
  means-so h h' (Instruction.LoadConstMath op d a i) X t = refl
  means-so h h' (Instruction.Label l) X t = refl
  means-so h h' (Instruction.Branch l) X t = refl
  means-so h h' (Instruction.BranchIf c l e) X t = refl

  stands-so : (is : List Instruction) (way : Way) (n : ℕ) (h h' : ℕ → ℕ) (X : Values)
      → ((n : ℕ) (X' : Values) → n < length is → stands m k h way n is X ≡ some X' → Unmixing m (get_or is n Instruction.Nop) X')
      → stands m k h way n is X ≡ stands m k h' way n is X
  unfolding walked
  stands-so [] going zero h h' X t = refl
  stands-so [] going (suc n) h h' X t = refl
  stands-so [] (seeking l) zero h h' X t = refl
  stands-so [] (seeking l) (suc n) h h' X t = refl
  stands-so (i ∷ is) going zero h h' X t = refl
  stands-so (i ∷ is) (seeking l) zero h h' X t = refl
  stands-so (i ∷ is) going (suc n) h h' X t =
      stands-so is (goes i X) n (λ j. h (suc j)) (λ j. h' (suc j)) (means m k (h 0) i X) (λ n X' l e. t (suc n) X' (omega arith) e)
      ∙ ap (λ Y. stands m k (λ j. h' (suc j)) (goes i X) n is Y) (means-so (h 0) (h' 0) i X (t 0 X (omega arith) refl))
  stands-so (i ∷ is) (seeking l) (suc n) h h' X t =
      stands-so is (cond (is_label l i) going (seeking l)) n (λ j. h (suc j)) (λ j. h' (suc j)) X (λ n X' l e. t (suc n) X' (omega arith) e)

pub settled : Settled
settled sheet listing constants origins σ₀ a h t w j X e =
    p.points j X (stands-so s.mode s.constants s.instructions going j p.lost w (values_of (real_at s 0) σ₀) unmixing ∙ e)
  where
    s : Sheet
    s = sheet_of sheet

    p : Preserves (left sheet listing constants origins) σ₀
    p = preserved sheet listing constants origins σ₀ a h

    v : AllIn (length s.constants) s.instructions
    v = (sound sheet (length listing) (entered sheet listing constants origins a).accepted).in-range

    unmixing : (n : ℕ) (X' : Values) → n < length s.instructions → stands s.mode s.constants p.lost going n s.instructions (values_of (real_at s 0) σ₀) ≡ some X'
        → Unmixing s.mode (get_or s.instructions n Instruction.Nop) X'
    unmixing n X' l e q d c f g =
        let r = p.points n X' e in
        let z = subst (InRange (length s.constants)) f (in_at (length s.constants) s.instructions v n l) in
        sym (is_real (is_real_reg (real_at s n) d) _ _ (X'.reg d) (r.holds.regs d z.0))
        ∙ t q n l d c f (is_real (is_real_reg (real_at s n) c) _ _ (X'.reg c) (r.holds.regs c z.1) ∙ g)
