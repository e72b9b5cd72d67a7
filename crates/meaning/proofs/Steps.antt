-- Methods in several steps: comparisons, IfElse, Fused, Half, moves and constants.
use mathlib.Core.Path.{◌≡◌, refl, sym, ap, ap₂, ◌∙◌, subst}
use mathlib.Core.Bool.{Bool, true, false, cond}
use mathlib.Core.List.{List, [], ◌∷◌, map}
use Prim.Native.Nat.{ℕ, ◌<◌}
use native.Mathlib.Decide.{ℕ_discrete}
use native.Mathlib.Nat.{zero-add}
use lib.ListN.{get_or}
use lib.Seq.{set-get_or}
use lib.Dec.{eqb, lit<}
use Rattle.mir.specs.declared.ops.BinOp.{BinOp}
use Rattle.mir.specs.declared.records.Loc.{Loc}
use Rattle.mir.specs.declared.records.Work.{Work}
use Rattle.mir.specs.declared.records.Record.{Record}
use Rattle.mir.specs.Register.{re, im}
use Rattle.mir.specs.Place.{index}
use Rattle.float.specs.Word as Word
use Rattle.player_machine.specs.Machine.{Store, at, place, execs, uni_word, bin_word}
use Rattle.lowering.specs.declared.realness.Realness.{Realness}
use Rattle.lowering.specs.Realness.{is_real_reg, is_real_loc, set_reg}
use Rattle.lowering.specs.Lines.{compare_lines, ifelse_lines, bits_lines, half_lines}
use Rattle.lowering.specs.Complexifier as c
use Rattle.lowering.specs.Complexifier.{State, then, emit, unlisted, by_two}
use Rattle.lowering.specs.Rerun.{compare_zero}
use Rattle.leftovers.proofs.Names.{name, rename}
use Rattle.leftovers.proofs.Methods.{two}
use Rattle.leftovers.proofs.Clearing.{complex-set, complex_stays}
use Rattle.meaning.specs.Value.{Value, R, C, re_of, im_of, wide, each, same, chosen}
use Rattle.meaning.specs.Means.{Values, put, widen, widened, zeroed, halved}
use Rattle.meaning.specs.Preserved.{value_of}
use Rattle.meaning.proofs.Eval.{run}
use Rattle.meaning.proofs.Leaf.{Ready, passes, leaf, put_here, put_other}
use Rattle.meaning.proofs.Stretch.{real-word, by, Computes, Does, works, join, recast, operand, settled}
use Rattle.meaning.proofs.Modes.{only-d, by_one}
use Rattle.meaning.proofs.Places.{ensure-does}

-- values that are the same everywhere
pub same_values : {X Y : Values} → ((r : ℕ) → X.reg r ≡ Y.reg r) → ((p : Loc) → X.place p ≡ Y.place p) → X ≡ Y
same_values e f = λ i. record { reg = λ r. e r i; place = λ p. f p i }

pub put_twice : (d : ℕ) (v w : Value) (X : Values) → put d v (put d w X) ≡ put d v X
put_twice d v w X = same_values (λ r. two (λ q. cond q v (cond q w (X.reg r)) ≡ cond q v (X.reg r)) refl refl (eqb r d)) (λ p. refl)

pub unlisted_does : (k : List ℕ) (B : List Work) (s : State) → Does k B (λ X. X) s (unlisted s)
unfolding unlisted
unlisted_does k B s = record { F = λ σ. σ; stands = λ j rest σ. rw zero-add; ready = λ X σ h. h }

-- a value made complex twice is one made complex once
pub wide_once : (X : Values) (a r : ℕ) → wide ((widen a X).reg r) ≡ wide (X.reg r)
unfolding re_of im_of
wide_once X a r = go (ℕ_discrete r a)
  where
    go : Dec (r ≡ a) → wide ((widen a X).reg r) ≡ wide (X.reg r)
    go (yes e) = ap wide (put_here X a (wide (X.reg a)) r e) ∙ ap (λ r. wide (X.reg r)) (sym e)
    go (no n) = ap wide (put_other X a (wide (X.reg a)) r n)

wide_both : (X : Values) (a b r : ℕ) → wide ((widened a b X).reg r) ≡ wide (X.reg r)
wide_both X a b r = wide_once (widen a X) b r ∙ wide_once X a r

module _ (k : List ℕ) (B : List Work) (s : State) (d a b : ℕ) (hd : d < 32) (ha : a < 32) (hb : b < 32) where
  ρ₂ : Realness
  ρ₂ = set_reg (set_reg s.real a false) b false

  a-complex : is_real_reg ρ₂ a ≡ false
  unfolding ρ₂
  a-complex = complex_stays (set_reg s.real a false) b a (complex-set s.real a)

  b-complex : is_real_reg ρ₂ b ≡ false
  unfolding ρ₂
  b-complex = complex-set (set_reg s.real a false) b

  both-ensured : Does k B (widened a b) s (then (c.ensure_complex a s) (c.ensure_complex b))
  unfolding then
  both-ensured = join (ensure-does k B s a ha) (ensure-does k B (c.ensure_complex a s).after b hb)

  compare-after : (op join : BinOp) → Does k B (λ X. by (same (bin_word op) (bin_word join)) d a b (widened a b X)) s (c.compare op join d a b s)
  unfolding c.compare then emit c.ensure_complex compare_lines ρ₂ passes rename run re_of im_of
  compare-after op by' =
      join both-ensured
      (settled k B ρ₂ d a b hd ha hb false false true a-complex b-complex (same (bin_word op) (bin_word by')) (compare_lines op by' 0 1 2) (compare_lines op by' d a b) (tt, refl, λ ω. refl))

  -- what is read is the same before the operands become complex
  pub compare-does : (op join : BinOp) → Does k B (λ X. put d (same (bin_word op) (bin_word join) (X.reg a) (X.reg b)) (widened a b X)) s (c.compare op join d a b s)
  unfolding re_of im_of
  compare-does op by' =
      recast (λ X. ap₂ (λ v w. put d (same (bin_word op) (bin_word by') v w) (widened a b X)) (wide_both X a b a) (wide_both X a b b)) (compare-after op by')

  chosen-does : (p : Loc) → index p < 256
      → Computes k B (λ X. by (chosen (re_of (X.place p))) d a b X) ρ₂ (map Record.Work (ifelse_lines d a b p)) (set_reg ρ₂ d false)
  unfolding ifelse_lines passes rename run name re_of im_of
  chosen-does p hp =
      works (ifelse_lines d a b p) (λ X σ h.
      leaf k d a b p hd hp false false [] tt (ifelse_lines 0 1 2 (Loc.Stack 2)) false tt X ρ₂ σ h _ (R 0) (R 0)
      (λ i. chosen ((sym (real-word (is_real_loc ρ₂.places p) (at σ (place p)) _) ∙ ap re_of (h.holds.places p hp)) i)
      (operand h a ha false a-complex i) (operand h b hb false b-complex i))
      (λ t. absurd t) (λ t. absurd t))

  pub ifelse-does : (p : Loc) → index p < 256
      → Does k B (λ X. put d (chosen (re_of (X.place p)) (X.reg a) (X.reg b)) (widened a b X)) s (c.ifelse d a b p s)
  unfolding c.ifelse then emit c.ensure_complex ρ₂ re_of im_of
  ifelse-does p hp =
      recast (λ X. ap₂ (λ v w. put d (chosen (re_of (X.place p)) v w) (widened a b X)) (wide_both X a b a) (wide_both X a b b))
      (join both-ensured (chosen-does p hp))

-- ---- IsZero, IsNotZero

nought : Value → Value
nought v = each (λ x. 0) v

wide_nought : (v : Value) → wide (nought v) ≡ C 0 0
unfolding nought each re_of im_of
wide_nought (R x) = refl
wide_nought (C x y) = refl

-- Temp made 0 and both operands complex, in the order of the listing and of the meaning
noughts : (a : ℕ) (X : Values) → widened a 31 (put 31 (nought (X.reg 31)) X) ≡ widen a (put 31 (C 0 0) X)
unfolding re_of im_of
noughts a X = same_values (λ r. go r (ℕ_discrete r 31) (ℕ_discrete r a) (ℕ_discrete a 31)) (λ p. refl)
  where
    X₁ : Values
    X₁ = put 31 (nought (X.reg 31)) X

    X₂ : Values
    X₂ = widen a X₁

    Z : Values
    Z = put 31 (C 0 0) X

    go : (r : ℕ) → Dec (r ≡ 31) → Dec (r ≡ a) → Dec (a ≡ 31) → (widen 31 X₂).reg r ≡ (widen a Z).reg r
    go r (yes e) (yes f) q =
        put_here X₂ 31 (wide (X₂.reg 31)) r e
        ∙ ap wide (put_here X₁ a (wide (X₁.reg a)) 31 (sym e ∙ f)
        ∙ ap wide (put_here X 31 (nought (X.reg 31)) a (sym f ∙ e)) ∙ wide_nought (X.reg 31))
        ∙ sym (put_here Z a (wide (Z.reg a)) r f ∙ ap wide (put_here X 31 (C 0 0) a (sym f ∙ e)))
    go r (yes e) (no m) q =
        put_here X₂ 31 (wide (X₂.reg 31)) r e
        ∙ ap wide (put_other X₁ a (wide (X₁.reg a)) 31 (λ f. m (e ∙ f)))
        ∙ wide_nought (X.reg 31)
        ∙ sym (put_other Z a (wide (Z.reg a)) r m ∙ put_here X 31 (C 0 0) r e)
    go r (no n) (yes f) q =
        put_other X₂ 31 (wide (X₂.reg 31)) r n
        ∙ put_here X₁ a (wide (X₁.reg a)) r f
        ∙ ap wide (put_other X 31 (nought (X.reg 31)) a (λ e. n (f ∙ e)) ∙ sym (put_other X 31 (C 0 0) a (λ e. n (f ∙ e))))
        ∙ sym (put_here Z a (wide (Z.reg a)) r f)
    go r (no n) (no m) q =
        put_other X₂ 31 (wide (X₂.reg 31)) r n
        ∙ put_other X₁ a (wide (X₁.reg a)) r m
        ∙ put_other X 31 (nought (X.reg 31)) r n
        ∙ sym (put_other Z a (wide (Z.reg a)) r m ∙ put_other X 31 (C 0 0) r n)

temp_nought : (a : ℕ) (X : Values) → (widen a (put 31 (C 0 0) X)).reg 31 ≡ C 0 0
unfolding re_of im_of
temp_nought a X = go (ℕ_discrete 31 a)
  where
    Z : Values
    Z = put 31 (C 0 0) X

    go : Dec (31 ≡ a) → (widen a Z).reg 31 ≡ C 0 0
    go (yes e) = put_here Z a (wide (Z.reg a)) 31 e ∙ ap wide (put_here X 31 (C 0 0) a (sym e))
    go (no n) = put_other Z a (wide (Z.reg a)) 31 n

module _ (k : List ℕ) (B : List Work) (s : State) where
  zeroed-by : (x : Bool) → is_real_reg s.real 31 ≡ x
      → Computes k B (λ X. put 31 (nought (X.reg 31)) X) s.real (map Record.Work (bits_lines BinOp.Xor x x 31 31 31)) (set_reg s.real 31 (c.promoted x x))
  unfolding bits_lines passes rename run name re im nought each
  zeroed-by true e =
      by_one k B s.real _ (λ v X. put 31 (nought v) X) (bits_lines BinOp.Xor true true 31 31 31) 31 (lit< tt) true e
      (λ X σ h. only-d k 31 31 31 (lit< tt) X s.real σ h (bits_lines BinOp.Xor true true 0 0 0) (bits_lines BinOp.Xor true true 31 31 31) true tt refl _ refl)
  zeroed-by false e =
      by_one k B s.real _ (λ v X. put 31 (nought v) X) (bits_lines BinOp.Xor false false 31 31 31) 31 (lit< tt) false e
      (λ X σ h. only-d k 31 31 31 (lit< tt) X s.real σ h (bits_lines BinOp.Xor false false 0 0 0) (bits_lines BinOp.Xor false false 31 31 31) false tt refl _ refl)

  zero-does : Does k B (λ X. put 31 (nought (X.reg 31)) X) s (c.bits BinOp.Xor 31 31 31 s)
  unfolding c.bits by_two emit
  zero-does = zeroed-by (is_real_reg s.real 31) refl

  pub compare-zero-does : (op by' : BinOp) (d a : ℕ) → d < 32 → a < 32
      → Does k B (λ X. put d (same (bin_word op) (bin_word by') ((zeroed X).reg a) (C 0 0)) (widen a (zeroed X))) s (compare_zero op by' d a s)
  unfolding then re_of im_of
  compare-zero-does op by' d a hd ha =
      recast (λ X.
      ap (by (same (bin_word op) (bin_word by')) d a 31) (noughts a X)
      ∙ ap (λ v. put d (same (bin_word op) (bin_word by') ((widen a (zeroed X)).reg a) v) (widen a (zeroed X))) (temp_nought a X)
      ∙ ap (λ v. put d (same (bin_word op) (bin_word by') v (C 0 0)) (widen a (zeroed X))) (wide_once (zeroed X) a a))
      (join zero-does (compare-after k B (c.bits BinOp.Xor 31 31 31 s).after d a 31 hd ha (lit< tt) op by'))

  -- ---- Half

  set_back : (ρ : Realness) (d : ℕ) → set_reg ρ d (is_real_reg ρ d) ≡ ρ
  set_back ρ d = λ i. record { regs = set-get_or ρ.regs d false i; places = ρ.places }

  module _ (d a : ℕ) (hd : d < 32) (ha : a < 32) (X : Values) (σ : Store) (h : Ready X s.real σ) where
    half-by : (y x : Bool) → is_real_reg s.real d ≡ y → is_real_reg s.real a ≡ x
        → Ready (put d (halved (Word.half (at σ (im a))) (value_of y (at σ (re d)) (at σ (im d))) (value_of x (at σ (re a)) (at σ (im a)))) X) (set_reg s.real d y)
        (execs k (half_lines d a) σ)
    unfolding half_lines passes rename run name uni_word halved re_of
    half-by true true ey ex = only-d k d a a hd X s.real σ h (half_lines 0 1) (half_lines d a) true tt refl _ refl
    half-by true false ey ex = only-d k d a a hd X s.real σ h (half_lines 0 1) (half_lines d a) true tt refl _ refl
    half-by false true ey ex = only-d k d a a hd X s.real σ h (half_lines 0 1) (half_lines d a) false tt refl _ refl
    half-by false false ey ex = only-d k d a a hd X s.real σ h (half_lines 0 1) (half_lines d a) false tt refl _ refl

    pub half-ready : Ready (put d (halved (Word.half (at σ (im a))) (X.reg d) (X.reg a)) X) s.real (execs k (half_lines d a) σ)
    half-ready =
        subst (λ ρ. Ready (put d (halved (Word.half (at σ (im a))) (X.reg d) (X.reg a)) X) ρ (execs k (half_lines d a) σ)) (set_back s.real d)
        (subst (λ v. Ready (put d (halved (Word.half (at σ (im a))) v (X.reg a)) X) (set_reg s.real d (is_real_reg s.real d)) (execs k (half_lines d a) σ))
        (h.holds.regs d hd)
        (subst (λ w. Ready (put d (halved (Word.half (at σ (im a))) (value_of (is_real_reg s.real d) (at σ (re d)) (at σ (im d))) w) X) (set_reg s.real d (is_real_reg s.real d)) (execs k (half_lines d a) σ))
        (h.holds.regs a ha) (half-by (is_real_reg s.real d) (is_real_reg s.real a) refl refl)))

  -- ---- constants, Fused

  pub const-does : (d i : ℕ) → d < 32 → Does k B (λ X. put d (R (get_or k i 0)) X) s (c.load_const d i s)
  unfolding c.load_const emit passes rename run name re im
  const-does d i hd =
      works (Work.LoadConst (re d) i ∷ []) (λ X σ h.
      only-d k d d d hd X s.real σ h (Work.LoadConst 4 i ∷ []) (Work.LoadConst (re d) i ∷ []) true tt refl _ refl)
