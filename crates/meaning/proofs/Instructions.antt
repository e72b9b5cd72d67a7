-- Each instruction computes what it means.
use mathlib.Core.Path.{◌≡◌, refl, sym, ap, ◌∙◌, subst}
use mathlib.Core.Bool.{Bool, true, false, cond, ◌&&◌, true≢false}
use mathlib.Core.Logic.{◌≢◌}
use mathlib.Core.List.{List, ◌++◌}
use Prim.Native.Nat.{ℕ, ◌+◌, ◌<◌}
use native.Mathlib.Omega.{arith}
use lib.ListN.{length, get_or}
use lib.Seq.{get_or-set_same}
use lib.Dec.{eqb, ltb, lit<}
use borrow.Author.Tests.{eqb-true, eqb-false, ltb-true, not-false}
use Rattle.mir.specs.declared.ops.UniOp.{UniOp}
use Rattle.mir.specs.declared.ops.BinOp.{BinOp}
use Rattle.mir.specs.declared.ops.ArithOp.{ArithOp}
use Rattle.mir.specs.declared.ops.FusedOp.{FusedOp}
use Rattle.mir.specs.declared.records.Work.{Work}
use Rattle.mir.specs.declared.records.Record.{Record}
use Rattle.mir.specs.declared.records.Instruction.{Instruction}
use Rattle.mir.specs.Register.{im}
use Rattle.float.specs.Word as Word
use Rattle.sheet.specs.declared.setup.Mode.{Mode}
use Rattle.sheet.specs.Setup.{is_stable, is_minding}
use Rattle.sheet.proofs.Ranges.{InRange}
use Rattle.player_machine.specs.Machine.{Store, at, execs, uni_word, bin_word, going, reach}
use Rattle.mir.specs.Takes.{takes_bin}
use Rattle.lowering.specs.declared.realness.Realness.{Realness}
use Rattle.lowering.specs.Realness.{is_real_reg, is_real_loc}
use Rattle.lowering.specs.Lines.{half_lines}
use Rattle.lowering.specs.Complexifier as c
use Rattle.lowering.specs.Complexifier.{State, Out, then, unlisted, emit}
use Rattle.lowering.specs.Rerun.{rerun_uni, rerun_bin, rerun_fused, rerun_arith, rerun}
use Rattle.lowering.specs.Lower.{barred, barred_divide, barred_bin, is_divide}
use Rattle.leftovers.proofs.Stretch.{works_reach}
use Rattle.leftovers.proofs.Instructions.{Works}
use Rattle.leftovers.proofs.Root.{root_defines}
use Rattle.meaning.specs.Value as Value
use Rattle.meaning.specs.Value.{Value, R, each}
use Rattle.meaning.specs.Means as Means
use Rattle.meaning.specs.Means.{Values, put, as_bin, row, means, halved}
use Rattle.meaning.proofs.Leaf.{Ready, put_here, put_other}
use Rattle.meaning.proofs.Table.{Begins, begins_at}
use Rattle.meaning.proofs.Stretch.{by, Computes, Does, join, recast}
use Rattle.meaning.proofs.Methods.{mov-does, each-does, minding-half-does, conjugate-does, times-i-does, times-neg-i-does, abs2-does, real-does, imaginary-does, not-does}
use Rattle.meaning.proofs.Methods.{plus-does, minus-does, times-does, bits-does, order-does, complex-does}
use Rattle.meaning.proofs.Modes.{abs-does, recip-does}
use Rattle.meaning.proofs.Places.{load_does, save-does}
use Rattle.meaning.proofs.Steps.{same_values, put_twice, unlisted_does, compare-does, ifelse-does, compare-zero-does, half-ready, const-does}
use Rattle.meaning.proofs.Dividing.{divide-by-does}
use Rattle.meaning.proofs.Rooting.{RootBlock, root_does, real_root_does}

-- A method's outcome with a word that it takes for a half that a real value has not: one word for each store.
pub record Gives (k : List ℕ) (B : List Work) (step : ℕ → Values → Values) (ρ : Realness) (rs : List Record) (ρ' : Realness) : Type 0 where
  pub F : Store → Store
  pub lost : Store → ℕ
  pub stands : (j : ℕ) (rest : List Record) (σ : Store) → reach k B going (length rs + j) (rs ++ rest) σ ≡ reach k B going j rest (F σ)
  pub ready : (X : Values) (σ : Store) → Ready X ρ σ → Ready (step (lost σ) X) ρ' (F σ)

abbrev Tells : List ℕ → List Work → (ℕ → Values → Values) → State → Out → Type 0
Tells k B f s o = Gives k B f s.real o.records o.after.real

gives : {k : List ℕ} {B : List Work} {f : Values → Values} {ρ ρ' : Realness} {rs : List Record} → Computes k B f ρ rs ρ' → Gives k B (λ h. f) ρ rs ρ'
gives c = record { F = c.F; lost = λ σ. 0; stands = c.stands; ready = c.ready }

-- ---- operands that are not barred

both_true : (x y : Bool) → x && y ≡ true → (x ≡ true) × (y ≡ true)
both_true true true e = (refl, refl)
both_true true false e = absurd (true≢false (sym e))
both_true false y e = absurd (true≢false (sym e))

general : (m : Bool) (a b : ℕ) (y : Bool) → barred_divide m a b y ≡ false → m ≡ true → y ≡ false → (a < 30) × (b < 30)
general true a b false e p q =
    let r = both_true (ltb a 30) (ltb b 30) (not-false (ltb a 30 && ltb b 30) e) in
    (ltb-true a 30 r.0, ltb-true b 30 r.1)
general true a b true e p q = absurd (true≢false q)
general false a b y e p q = absurd (true≢false (sym p))

module _ (k : List ℕ) (B : List Work) (m : Mode) (s : State) where
  -- by whether it is mode 2
  half-tells : (t : Bool) (d a : ℕ) → d < 32 → a < 32
      → Tells k B (λ h X. cond t (put d (each Word.half (X.reg a)) X) (put d (halved h (X.reg d) (X.reg a)) X)) s (c.half_by t d a s)
  unfolding c.half_by
  half-tells false d a hd ha = record {
    F = execs k (half_lines d a);
    lost = λ σ. Word.half (at σ (im a));
    stands = works_reach k B (half_lines d a);
    ready = λ X σ h. half-ready k B s d a hd ha X σ h;
  }
  half-tells true d a hd ha = gives (minding-half-does k B s d a hd ha)

  uni-tells : (op : UniOp) (d a : ℕ) → d < 32 → a < 32 → ((rerun_uni m op d a s).after.is_root_defined ≡ true → RootBlock (is_stable m) k B)
      → Begins (rerun_uni m op d a s).after.consts k → Tells k B (λ h. Means.uni m h op d a) s (rerun_uni m op d a s)
  unfolding rerun_uni Means.uni Value.of_one uni_word bin_word c.half c.abs c.recip c.real_root
  uni-tells UniOp.Neg d a hd ha b g = gives (each-does k B s d a hd ha UniOp.Neg)
  uni-tells UniOp.Not d a hd ha b g = gives (not-does k B s d a hd ha)
  uni-tells UniOp.Abs d a hd ha b g = gives (abs-does k B s d a hd ha (is_stable m) (is_real_reg s.real a) refl g)
  uni-tells UniOp.Root d a hd ha b g = gives (root_does k B (is_stable m) (b (root_defines (is_stable m) d a s)) s d a hd ha)
  uni-tells UniOp.RealRoot d a hd ha b g = gives (real_root_does k B (is_stable m) s d a hd ha (is_real_reg s.real a) refl b)
  uni-tells UniOp.Recip d a hd ha b g = gives (recip-does k B s d a hd ha (is_stable m) (is_real_reg s.real a) refl g)
  uni-tells UniOp.Round d a hd ha b g = gives (each-does k B s d a hd ha UniOp.Round)
  uni-tells UniOp.Floor d a hd ha b g = gives (each-does k B s d a hd ha UniOp.Floor)
  uni-tells UniOp.Ceiling d a hd ha b g = gives (each-does k B s d a hd ha UniOp.Ceiling)
  uni-tells UniOp.Trunc d a hd ha b g = gives (each-does k B s d a hd ha UniOp.Trunc)
  uni-tells UniOp.Real d a hd ha b g = gives (real-does k B s d a hd ha)
  uni-tells UniOp.Imaginary d a hd ha b g = gives (imaginary-does k B s d a hd ha)
  uni-tells UniOp.Conjugate d a hd ha b g = gives (conjugate-does k B s d a hd ha)
  uni-tells UniOp.Half d a hd ha b g = half-tells (is_minding m) d a hd ha
  uni-tells UniOp.IsZero d a hd ha b g = gives (compare-zero-does k B s BinOp.Equal BinOp.And d a hd ha)
  uni-tells UniOp.IsNotZero d a hd ha b g = gives (compare-zero-does k B s BinOp.NotEqual BinOp.Or d a hd ha)
  uni-tells UniOp.Sign d a hd ha b g = gives (each-does k B s d a hd ha UniOp.Sign)
  uni-tells UniOp.Abs2 d a hd ha b g = gives (abs2-does k B s d a hd ha)
  uni-tells UniOp.TimesI d a hd ha b g = gives (times-i-does k B s d a hd ha)
  uni-tells UniOp.TimesNegI d a hd ha b g = gives (times-neg-i-does k B s d a hd ha)

  divide-does : (d a b : ℕ) → d < 32 → a < 32 → b < 32 → barred_divide (is_stable m) a b (is_real_reg s.real b) ≡ false
      → Begins (c.divide m d a b s).after.consts k → Does k B (Means.divide m d a b) s (c.divide m d a b s)
  unfolding c.divide
  divide-does d a b hd ha hb e g =
      divide-by-does k B s d a b hd ha hb m (is_real_reg s.real a) (is_real_reg s.real b) refl refl
      (λ p q. general (is_stable m) a b (is_real_reg s.real b) e p q) g

  bin-does : (op : BinOp) (d a b : ℕ) → d < 32 → a < 32 → b < 32 → takes_bin false op ≡ true → barred_bin (is_stable m) op a b s.real ≡ false
      → Begins (rerun_bin m op d a b s).after.consts k → Does k B (Means.bin m op d a b) s (rerun_bin m op d a b s)
  unfolding rerun_bin Value.of_two bin_word
  bin-does BinOp.Plus d a b hd ha hb t e g = plus-does k B s d a b hd ha hb
  bin-does BinOp.Minus d a b hd ha hb t e g = minus-does k B s d a b hd ha hb
  bin-does BinOp.Times d a b hd ha hb t e g = times-does k B s d a b hd ha hb
  bin-does BinOp.Divide d a b hd ha hb t e g = divide-does d a b hd ha hb e g
  bin-does BinOp.GreaterThan d a b hd ha hb t e g = order-does k B s d a b hd ha hb BinOp.GreaterThan
  bin-does BinOp.GreaterThanEqual d a b hd ha hb t e g = order-does k B s d a b hd ha hb BinOp.GreaterThanEqual
  bin-does BinOp.LittleThan d a b hd ha hb t e g = order-does k B s d a b hd ha hb BinOp.LittleThan
  bin-does BinOp.LittleThanEqual d a b hd ha hb t e g = order-does k B s d a b hd ha hb BinOp.LittleThanEqual
  bin-does BinOp.Equal d a b hd ha hb t e g = compare-does k B s d a b hd ha hb BinOp.Equal BinOp.And
  bin-does BinOp.NotEqual d a b hd ha hb t e g = compare-does k B s d a b hd ha hb BinOp.NotEqual BinOp.Or
  bin-does BinOp.And d a b hd ha hb t e g = bits-does k B s d a b hd ha hb BinOp.And
  bin-does BinOp.AndNot d a b hd ha hb t e g = absurd (true≢false (sym t))
  bin-does BinOp.Or d a b hd ha hb t e g = bits-does k B s d a b hd ha hb BinOp.Or
  bin-does BinOp.Xor d a b hd ha hb t e g = bits-does k B s d a b hd ha hb BinOp.Xor
  bin-does BinOp.Complex d a b hd ha hb t e g = complex-does k B s d a b hd ha hb

  -- ---- Fused

  fused-does : (op : FusedOp) (d a b e : ℕ) → d < 32 → a < 32 → b < 32 → e < 32 → e ≢ 30
      → Does k B (λ X. let p = Value.times (X.reg a) (X.reg b) in put d (Value.fused op p (X.reg e)) (put 30 p X)) s (rerun_fused op d a b e s)
  unfolding rerun_fused c.fused_mul_add c.fused_mul_sub c.fused_neg_mul_add c.fused_neg_mul_sub then Value.fused uni_word
  fused-does op d a b e hd ha hb he n = recast (λ X. read op X) (go op)
    where
      s' : State
      s' = (c.times 30 a b s).after

      product : Does k B (by Value.times 30 a b) s (c.times 30 a b s)
      product = times-does k B s 30 a b (lit< tt) ha hb

      P : Values → Values
      P X = put 30 (Value.times (X.reg a) (X.reg b)) X

      -- c is not Ret
      read : (op : FusedOp) (X : Values)
          → put d (Value.fused op ((P X).reg 30) ((P X).reg e)) (P X) ≡ put d (Value.fused op (Value.times (X.reg a) (X.reg b)) (X.reg e)) (P X)
      read op X = ap (λ v. put d (Value.fused op (Value.times (X.reg a) (X.reg b)) v) (P X)) (put_other X 30 _ e n)

      go : (op : FusedOp) → Does k B (λ X. put d (Value.fused op ((P X).reg 30) ((P X).reg e)) (P X)) s (rerun_fused op d a b e s)
      go FusedOp.MulAdd = join product (plus-does k B s' d 30 e hd (lit< tt) he)
      go FusedOp.MulSub = join product (minus-does k B s' d 30 e hd (lit< tt) he)
      go FusedOp.NegMulAdd = join product (minus-does k B s' d e 30 hd he (lit< tt))
      go FusedOp.NegMulSub =
          recast (λ X.
          let v = Value.plus ((P X).reg 30) ((P X).reg e) in
          put_twice d (each Word.neg ((put d v (P X)).reg d)) v (P X)
          ∙ ap (λ w. put d (each Word.neg w) (P X)) (put_here (P X) d v d refl))
          (join (join product (plus-does k B s' d 30 e hd (lit< tt) he)) (each-does k B (c.plus d 30 e s').after d d hd hd UniOp.Neg))

  -- ---- LoadMath, LoadConstMath: b's realness is known

  arith-does : (op : ArithOp) (d a b : ℕ) → d < 32 → a < 32 → b < 32
      → (op ≡ ArithOp.Divide → barred_divide (is_stable m) a b (is_real_reg s.real b) ≡ false)
      → Begins (rerun_arith m op d a b s).after.consts k → Does k B (Means.bin m (as_bin op) d a b) s (rerun_arith m op d a b s)
  unfolding rerun_arith Value.of_two
  arith-does ArithOp.Plus d a b hd ha hb e g = plus-does k B s d a b hd ha hb
  arith-does ArithOp.Minus d a b hd ha hb e g = minus-does k B s d a b hd ha hb
  arith-does ArithOp.Times d a b hd ha hb e g = times-does k B s d a b hd ha hb
  arith-does ArithOp.Divide d a b hd ha hb e g = divide-does d a b hd ha hb (e refl) g

-- a move of a register to itself
moved_self : (d a : ℕ) (X : Values) → d ≡ a → X ≡ put d (X.reg a) X
moved_self d a X e = same_values (λ r. go r (eqb r d) refl) (λ p. refl)
  where
    go : (r : ℕ) (q : Bool) → eqb r d ≡ q → X.reg r ≡ cond q (X.reg a) (X.reg r)
    go r true f = ap X.reg (eqb-true r d f ∙ e)
    go r false f = refl

never : (m : Bool) (a b : ℕ) → barred_divide m a b true ≡ false
never true a b = refl
never false a b = refl

divides : (op : ArithOp) (x : Bool) → is_divide op && x ≡ false → op ≡ ArithOp.Divide → x ≡ false
divides op x e q = subst (λ op. is_divide op && x ≡ false) q e

-- κ are the sheet's own constants, with which the table k begins
module _ (k : List ℕ) (B : List Work) (m : Mode) (κ : List ℕ) (front : Begins κ k) where
  const-is : (d i : ℕ) → i < length κ → (X : Values) → put d (R (get_or k i 0)) X ≡ put d (R (get_or κ i 0)) X
  const-is d i h X = ap (λ w. put d (R w) X) (begins_at front i h)

  mov-tells : (s : State) (d a : ℕ) → d < 32 → a < 32 → (q : Bool) → eqb d a ≡ q
      → Does k B (λ X. put d (X.reg a) X) s (cond q (unlisted s) (c.fmov d a s))
  mov-tells s d a hd ha true e = recast (λ X. moved_self d a X (eqb-true d a e)) (unlisted_does k B s)
  mov-tells s d a hd ha false e = mov-does k B s d a hd ha

  pub rerun-tells : (i : Instruction) (s : State) → Works i → InRange (length κ) i → length s.real.regs ≡ 32 → barred (is_stable m) i s.real ≡ false
      → ((rerun m i s).after.is_root_defined ≡ true → RootBlock (is_stable m) k B) → Begins (rerun m i s).after.consts k
      → Gives k B (λ h. means m κ h i) s.real (rerun m i s).records (rerun m i s).after.real
  unfolding rerun means row then barred
  rerun-tells Instruction.Nop s z v n e b g = gives (unlisted_does k B s)
  rerun-tells (Instruction.Uni op d a) s z v n e b g = uni-tells k B m s op d a v.0 v.1 b g
  rerun-tells (Instruction.Bi op d a b') s z v n e b g = gives (bin-does k B m s op d a b' v.0 v.1 v.2 v.3 e g)
  rerun-tells (Instruction.Mov d a) s z v n e b g = gives (mov-tells s d a v.0 v.1 (eqb d a) refl)
  rerun-tells (Instruction.Load d p) s z v n e b g = gives (load_does k B s d p v.0 v.1)
  rerun-tells (Instruction.Save a p) s z v n e b g = gives (save-does k B a p v.0 v.1 v.2 s)
  rerun-tells (Instruction.LoadConst d i) s z v n e b g = gives (recast (const-is d i v.1) (const-does k B s d i v.0))
  rerun-tells (Instruction.Fused op d a b' c') s z v n e b g = gives (fused-does k B m s op d a b' c' v.0 v.1 v.2 v.3 (eqb-false c' 30 e))
  rerun-tells (Instruction.IfElse d a b' p) s z v n e b g = gives (ifelse-does k B s d a b' v.0 v.1 v.2 p v.3)
  rerun-tells (Instruction.LoadMath op d a p) s z v n e b g =
      let s' = (c.load_from 31 p s).after in
      let r : is_real_reg s'.real 31 ≡ is_real_loc s.real.places p =
      unfold c.load_from emit in get_or-set_same s.real.regs 31 (is_real_loc s.real.places p) false (omega (arith, n)) in
      gives (join (load_does k B s 31 p (lit< tt) v.2)
      (arith-does k B m s' op d a 31 v.0 v.1 (lit< tt)
      (λ q. ap (barred_divide (is_stable m) a 31) r ∙ divides op (barred_divide (is_stable m) a 31 (is_real_loc s.real.places p)) e q) g))
  rerun-tells (Instruction.LoadConstMath op d a i) s z v n e b g =
      let s' = (c.load_const 31 i s).after in
      let r : is_real_reg s'.real 31 ≡ true = unfold c.load_const emit in get_or-set_same s.real.regs 31 true false (omega (arith, n)) in
      gives (join (recast (const-is 31 i v.2) (const-does k B s 31 i (lit< tt)))
      (arith-does k B m s' op d a 31 v.0 v.1 (lit< tt) (λ q. ap (barred_divide (is_stable m) a 31) r ∙ never (is_stable m) a 31) g))
  rerun-tells (Instruction.Label l) s z v n e b g = absurd z
  rerun-tells (Instruction.Branch l) s z v n e b g = absurd z
  rerun-tells (Instruction.BranchIf c' l q) s z v n e b g = absurd z
