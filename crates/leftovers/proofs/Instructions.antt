-- Each instruction keeps the agreement and spares the general registers.
use mathlib.Core.Path.{◌≡◌, refl}
use mathlib.Core.Bool.{Bool, true, false, cond}
use mathlib.Core.Logic.{inl, inr}
use mathlib.Core.List.{List, [], ◌∷◌, ◌++◌}
use Prim.Native.Nat.{ℕ, ◌≤◌, ◌<◌}
use lib.ListN.{length}
use lib.Dec.{lit<, lit≤, eqb}
use Rattle.mir.specs.declared.ops.UniOp.{UniOp}
use Rattle.mir.specs.declared.ops.BinOp.{BinOp}
use Rattle.mir.specs.declared.ops.FusedOp.{FusedOp}
use Rattle.mir.specs.declared.records.Work.{Work}
use Rattle.mir.specs.declared.records.Instruction.{Instruction}
use Rattle.mir.specs.Register.{re, im}
use Rattle.sheet.specs.declared.setup.Mode.{Mode}
use Rattle.sheet.specs.Setup.{is_stable, is_minding}
use Rattle.lowering.specs.declared.realness.Realness.{Realness}
use Rattle.lowering.specs.Realness.{is_real_reg}
use Rattle.lowering.specs.Lines.{real_root_lines}
use Rattle.lowering.specs.Lines.{abs2_lines, timesILines, timesNegILines}
use Rattle.lowering.specs.Lines.{real_lines, imaginary_lines, conjugate_lines, complex_lines, not_lines}
use Rattle.lowering.specs.Complexifier as c
use Rattle.lowering.specs.Complexifier.{State, then, unlisted, copied, as_real, as_complex, both_as_complex}
use Rattle.lowering.specs.Rerun.{rerun_uni, rerun_bin, rerun_fused, rerun}
use Rattle.leftovers.proofs.Names.{rename, good}
use Rattle.leftovers.proofs.Stretch.{join}
use Rattle.sheet.proofs.Ranges.{InRange}
use Rattle.leftovers.specs.Leftovers.{IsDestination, IsOperand}
use Rattle.leftovers.proofs.Methods.{Keeps, two, unary, binary, settled, fmov-keeps, each_keeps, abs-keeps, recip-keeps, plus-keeps, minus-keeps}
use Rattle.leftovers.proofs.Methods.{times-keeps, order-keeps, bits-keeps}
use Rattle.leftovers.proofs.Clearing.{compare-keeps, ifelse-keeps}
use Rattle.leftovers.proofs.Places.{load_keeps, save-keeps}
use Rattle.leftovers.proofs.Halving.{half_keeps}
use Rattle.leftovers.proofs.Dividing.{divide-keeps, arith-keeps}
use Rattle.leftovers.proofs.Root.{Block, unlisted_keeps, root-keeps, root_defines, compare-zero-keeps, frame_any}

-- every instruction is in range
abbrev pub AllIn : ℕ → List Instruction → Type 0
AllIn count [] = Unit {0}
AllIn count (i ∷ l) = InRange count i × AllIn count l

pub all_in_split : (count : ℕ) (l l' : List Instruction) → AllIn count (l ++ l') → AllIn count l × AllIn count l'
all_in_split count [] l' v = (tt, v)
all_in_split count (i ∷ l) l' v =
    let r = all_in_split count l l' v.1 in
    ((v.0, r.0), r.1)

-- the operands that are recorded as real before the instruction
abbrev pub Cleared : Realness → Instruction → ℕ → Type 0
Cleared ρ i r = IsOperand i r × (is_real_reg ρ r ≡ true)

-- an instruction that neither is a label nor branches
abbrev pub Works : Instruction → Type 0
Works Instruction.Nop = Unit {0}
Works (Instruction.Uni op d a) = Unit {0}
Works (Instruction.Bi op d a b) = Unit {0}
Works (Instruction.Mov d a) = Unit {0}
Works (Instruction.Load d p) = Unit {0}
Works (Instruction.Save a p) = Unit {0}
Works (Instruction.LoadConst d i) = Unit {0}
Works (Instruction.Fused op d a b c) = Unit {0}
Works (Instruction.IfElse d a b p) = Unit {0}
Works (Instruction.LoadMath op d a p) = Unit {0}
Works (Instruction.LoadConstMath op d a i) = Unit {0}
Works (Instruction.Label l) = ⊥
Works (Instruction.Branch l) = ⊥
Works (Instruction.BranchIf c l e) = ⊥

-- but in mode 2, an instruction is no Half of a register recorded as real into one recorded as complex
abbrev pub HalfOk : Mode → Realness → Instruction → Type 0
HalfOk m ρ i = is_minding m ≡ false → (d a : ℕ) → i ≡ Instruction.Uni UniOp.Half d a → is_real_reg ρ a ≡ true → is_real_reg ρ d ≡ true

module _ (k : List ℕ) (B : List Work) (m : Mode) (s : State) where
  real-root-keeps : (Z : ℕ → Type 0) (H : Type 0) (d a : ℕ) → d < 32 → a < 32 → (is_real_reg s.real a ≡ true → Z a) → (x : Bool)
      → is_real_reg s.real a ≡ x
      → ((c.real_root_by (is_stable m) x d a s).after.is_root_defined ≡ true → Block k B)
      → length (c.real_root_by (is_stable m) x d a s).after.consts ≤ length k → Keeps k B (λ r. r ≡ d) Z H s (c.real_root_by (is_stable m) x d a s)
  unfolding c.real_root_by real_root_lines good rename re im
  real-root-keeps Z H d a hd ha z true e b hk =
      settled k B Z H s d a a hd ha ha true true true e e (Work.Uni UniOp.Root 4 6 ∷ []) _ (tt, refl, tt)
  real-root-keeps Z H d a hd ha z false e b hk = root-keeps k B Z H s d a hd ha z (b (root_defines (is_stable m) d a s)) (is_stable m) hk

  uni-keeps : (Z : ℕ → Type 0) (H : Type 0) (op : UniOp) (d a : ℕ) → d < 32 → a < 32 → (is_real_reg s.real a ≡ true → Z a)
      → (H → is_minding m ≡ false → op ≡ UniOp.Half → is_real_reg s.real a ≡ true → is_real_reg s.real d ≡ true)
      → ((rerun_uni m op d a s).after.is_root_defined ≡ true → Block k B) → length (rerun_uni m op d a s).after.consts ≤ length k
      → Keeps k B (λ r. r ≡ d) Z H s (rerun_uni m op d a s)
  unfolding rerun_uni c.abs c.real_root c.recip not_lines real_lines imaginary_lines conjugate_lines abs2_lines timesILines timesNegILines good rename
  uni-keeps Z H UniOp.Neg d a hd ha z h b hk = each_keeps k B Z H s d a hd ha UniOp.Neg refl
  uni-keeps Z H UniOp.Not d a hd ha z h b hk = unary k B Z H s not_lines as_real d a hd ha (tt, refl, tt) (tt, refl, tt)
  uni-keeps Z H UniOp.Abs d a hd ha z h b hk = abs-keeps k B Z H s d a hd ha (is_stable m) (is_real_reg s.real a) refl hk
  uni-keeps Z H UniOp.Root d a hd ha z h b hk = root-keeps k B Z H s d a hd ha z (b (root_defines (is_stable m) d a s)) (is_stable m) hk
  uni-keeps Z H UniOp.RealRoot d a hd ha z h b hk = real-root-keeps Z H d a hd ha z (is_real_reg s.real a) refl b hk
  uni-keeps Z H UniOp.Recip d a hd ha z h b hk = recip-keeps k B Z H s d a hd ha (is_stable m) (is_real_reg s.real a) refl hk
  uni-keeps Z H UniOp.Round d a hd ha z h b hk = each_keeps k B Z H s d a hd ha UniOp.Round refl
  uni-keeps Z H UniOp.Floor d a hd ha z h b hk = each_keeps k B Z H s d a hd ha UniOp.Floor refl
  uni-keeps Z H UniOp.Ceiling d a hd ha z h b hk = each_keeps k B Z H s d a hd ha UniOp.Ceiling refl
  uni-keeps Z H UniOp.Trunc d a hd ha z h b hk = each_keeps k B Z H s d a hd ha UniOp.Trunc refl
  uni-keeps Z H UniOp.Real d a hd ha z h b hk = unary k B Z H s real_lines as_real d a hd ha (tt, refl, tt) (tt, refl, tt)
  uni-keeps Z H UniOp.Imaginary d a hd ha z h b hk = unary k B Z H s imaginary_lines as_real d a hd ha (tt, refl, tt) (tt, refl, tt)
  uni-keeps Z H UniOp.Conjugate d a hd ha z h b hk = unary k B Z H s conjugate_lines copied d a hd ha (tt, refl, tt) (tt, refl, tt)
  uni-keeps Z H UniOp.Half d a hd ha z h b hk = half_keeps k B Z H s d a hd ha m (λ x t. h x t refl)
  uni-keeps Z H UniOp.IsZero d a hd ha z h b hk = compare-zero-keeps k B Z H s d a hd ha z BinOp.Equal BinOp.And refl refl
  uni-keeps Z H UniOp.IsNotZero d a hd ha z h b hk = compare-zero-keeps k B Z H s d a hd ha z BinOp.NotEqual BinOp.Or refl refl
  uni-keeps Z H UniOp.Sign d a hd ha z h b hk = each_keeps k B Z H s d a hd ha UniOp.Sign refl
  uni-keeps Z H UniOp.Abs2 d a hd ha z h b hk = unary k B Z H s abs2_lines copied d a hd ha (tt, refl, tt) (tt, refl, tt)
  uni-keeps Z H UniOp.TimesI d a hd ha z h b hk = unary k B Z H s timesILines as_complex d a hd ha (tt, refl, tt) (tt, refl, tt)
  uni-keeps Z H UniOp.TimesNegI d a hd ha z h b hk = unary k B Z H s timesNegILines as_complex d a hd ha (tt, refl, tt) (tt, refl, tt)

  bin-keeps : (Z : ℕ → Type 0) (H : Type 0) (op : BinOp) (d a b : ℕ) → d < 32 → a < 32 → b < 32 → (is_real_reg s.real a ≡ true → Z a)
      → (is_real_reg s.real b ≡ true → Z b)
      → length (rerun_bin m op d a b s).after.consts ≤ length k
      → Keeps k B (λ r. r ≡ d) Z H s (rerun_bin m op d a b s)
  unfolding rerun_bin complex_lines good rename
  bin-keeps Z H BinOp.Plus d a b hd ha hb za zb hk = plus-keeps k B Z H s d a b hd ha hb
  bin-keeps Z H BinOp.Minus d a b hd ha hb za zb hk = minus-keeps k B Z H s d a b hd ha hb
  bin-keeps Z H BinOp.Times d a b hd ha hb za zb hk = times-keeps k B Z H s d a b hd ha hb
  bin-keeps Z H BinOp.Divide d a b hd ha hb za zb hk = divide-keeps k B Z H s d a b hd ha hb m hk
  bin-keeps Z H BinOp.GreaterThan d a b hd ha hb za zb hk = order-keeps k B Z H s d a b hd ha hb BinOp.GreaterThan refl
  bin-keeps Z H BinOp.GreaterThanEqual d a b hd ha hb za zb hk = order-keeps k B Z H s d a b hd ha hb BinOp.GreaterThanEqual refl
  bin-keeps Z H BinOp.LittleThan d a b hd ha hb za zb hk = order-keeps k B Z H s d a b hd ha hb BinOp.LittleThan refl
  bin-keeps Z H BinOp.LittleThanEqual d a b hd ha hb za zb hk = order-keeps k B Z H s d a b hd ha hb BinOp.LittleThanEqual refl
  bin-keeps Z H BinOp.Equal d a b hd ha hb za zb hk = compare-keeps k B Z H s d a b hd ha hb za zb BinOp.Equal BinOp.And refl refl
  bin-keeps Z H BinOp.NotEqual d a b hd ha hb za zb hk = compare-keeps k B Z H s d a b hd ha hb za zb BinOp.NotEqual BinOp.Or refl refl
  bin-keeps Z H BinOp.And d a b hd ha hb za zb hk = bits-keeps k B Z H s d a b hd ha hb BinOp.And refl
  bin-keeps Z H BinOp.AndNot d a b hd ha hb za zb hk = unlisted_keeps k B _ Z H s
  bin-keeps Z H BinOp.Or d a b hd ha hb za zb hk = bits-keeps k B Z H s d a b hd ha hb BinOp.Or refl
  bin-keeps Z H BinOp.Xor d a b hd ha hb za zb hk = bits-keeps k B Z H s d a b hd ha hb BinOp.Xor refl
  bin-keeps Z H BinOp.Complex d a b hd ha hb za zb hk =
      binary k B Z H s complex_lines both_as_complex d a b hd ha hb (tt, refl, tt) (tt, refl, tt) (tt, refl, tt) (tt, refl, tt)

  fused_keeps : (Z : ℕ → Type 0) (H : Type 0) (op : FusedOp) (d a b e : ℕ) → d < 32 → a < 32 → b < 32 → e < 32
      → Keeps k B (λ r. r ≡ d) Z H s (rerun_fused op d a b e s)
  unfolding rerun_fused c.fused_mul_add c.fused_mul_sub c.fused_neg_mul_add c.fused_neg_mul_sub then
  fused_keeps Z H op d a b e hd ha hb he = go op
    where
      s' : State
      s' = (c.times 30 a b s).after

      times : Keeps k B (λ r. r ≡ d) Z H s (c.times 30 a b s)
      times = frame_any (λ r. r ≡ d) 30 (lit≤ tt) (times-keeps k B Z H s 30 a b (lit< tt) ha hb)

      go : (op : FusedOp) → Keeps k B (λ r. r ≡ d) Z H s (rerun_fused op d a b e s)
      go FusedOp.MulAdd = join times (plus-keeps k B Z H s' d 30 e hd (lit< tt) he)
      go FusedOp.MulSub = join times (minus-keeps k B Z H s' d 30 e hd (lit< tt) he)
      go FusedOp.NegMulAdd = join times (minus-keeps k B Z H s' d e 30 hd he (lit< tt))
      go FusedOp.NegMulSub =
          join (join times (plus-keeps k B Z H s' d 30 e hd (lit< tt) he))
          (each_keeps k B Z H (c.plus d 30 e s').after d d hd hd UniOp.Neg refl)

  load-const-keeps : (Z : ℕ → Type 0) (H : Type 0) (d i : ℕ) → d < 32 → i < length k → Keeps k B (λ r. r ≡ d) Z H s (c.load_const d i s)
  unfolding c.load_const good rename re im
  load-const-keeps Z H d i hd hi = settled k B Z H s d d d hd hd hd _ _ true refl refl (Work.LoadConst 4 i ∷ []) _ (tt, refl, (hi, tt))

-- each instruction that works keeps the agreement, and spares the general registers
pub rerun_keeps : (k : List ℕ) (B : List Work) (m : Mode) (i : Instruction) (s : State) → Works i → InRange (length k) i
    → ((rerun m i s).after.is_root_defined ≡ true → Block k B) → length (rerun m i s).after.consts ≤ length k
    → Keeps k B (IsDestination i) (Cleared s.real i) (HalfOk m s.real i) s (rerun m i s)
unfolding rerun then
rerun_keeps k B m Instruction.Nop s z v b hk = unlisted_keeps k B _ _ _ s
rerun_keeps k B m (Instruction.Uni op d a) s z v b hk =
    uni-keeps k B m s _ _ op d a v.0 v.1 (λ e. (refl, e)) (λ h t e. h t d a (rw e)) b hk
rerun_keeps k B m (Instruction.Bi op d a c) s z v b hk =
    bin-keeps k B m s _ _ op d a c v.0 v.1 v.2 (λ e. (inl refl, e)) (λ e. (inr refl, e)) hk
rerun_keeps k B m (Instruction.Mov d a) s z v b hk =
    let i = Instruction.Mov d a in
    two (λ q. Keeps k B (λ r. r ≡ d) (Cleared s.real i) (HalfOk m s.real i) s (cond q (unlisted s) (c.fmov d a s)))
    (unlisted_keeps k B _ _ _ s) (fmov-keeps k B _ _ s d a v.0 v.1) (eqb d a)
rerun_keeps k B m (Instruction.Load d p) s z v b hk = load_keeps k B _ _ s d p v.0 v.1
rerun_keeps k B m (Instruction.Save a p) s z v b hk = save-keeps k B _ _ _ a p v.0 v.1 v.2 s (λ e. (refl, e))
rerun_keeps k B m (Instruction.LoadConst d i) s z v b hk = load-const-keeps k B m s _ _ d i v.0 v.1
rerun_keeps k B m (Instruction.Fused op d a b' c) s z v b hk = fused_keeps k B m s _ _ op d a b' c v.0 v.1 v.2 v.3
rerun_keeps k B m (Instruction.IfElse d a c p) s z v b hk =
    ifelse-keeps k B _ _ s d a c v.0 v.1 v.2 (λ e. (inl refl, e)) (λ e. (inr refl, e)) p v.3 v.4
rerun_keeps k B m (Instruction.LoadMath op d a p) s z v b hk =
    join (frame_any _ 31 (lit≤ tt) (load_keeps k B _ _ s 31 p (lit< tt) v.2))
    (arith-keeps k B _ _ (c.load_from 31 p s).after d a 31 v.0 v.1 (lit< tt) m op hk)
rerun_keeps k B m (Instruction.LoadConstMath op d a i) s z v b hk =
    join (frame_any _ 31 (lit≤ tt) (load-const-keeps k B m s _ _ 31 i (lit< tt) v.2))
    (arith-keeps k B _ _ (c.load_const 31 i s).after d a 31 v.0 v.1 (lit< tt) m op hk)
rerun_keeps k B m (Instruction.Label _) s z v b hk = elim z [ ]
rerun_keeps k B m (Instruction.Branch _) s z v b hk = elim z [ ]
rerun_keeps k B m (Instruction.BranchIf _ _ _) s z v b hk = elim z [ ]
