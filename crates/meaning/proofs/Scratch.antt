-- Abs, Recip and Divide, by mode: those whose lines leave words in Temp or Ret.
use mathlib.Core.Path.{◌≡◌, refl, sym, ap, ◌∙◌, subst, subst₂}
use mathlib.Core.Bool.{Bool, true, false, true≢false}
use mathlib.Core.Logic.{◌≢◌}
use mathlib.Core.List.{List, [], ◌∷◌, map}
use Prim.Native.Nat.{ℕ, ◌<◌}
use native.Mathlib.Decide.{ℕ_discrete}
use lib.Dec.{lit<}
use Rattle.mir.specs.declared.records.Work.{Work}
use Rattle.mir.specs.declared.records.Record.{Record}
use Rattle.mir.specs.Register.{re, im}
use Rattle.float.specs.Word as Word
use Rattle.sheet.specs.declared.setup.Mode.{Mode}
use Rattle.player_machine.specs.Machine.{Store, at, execs, uni_word, bin_word, fused_word}
use Rattle.lowering.specs.declared.realness.Realness.{Realness}
use Rattle.lowering.specs.Realness.{is_real_reg, set_reg}
use Rattle.lowering.specs.Lines.{divide_lines}
use Rattle.leftovers.proofs.Names.{name, rename}
use Rattle.meaning.specs.Value.{Value, R, C, re_of, fused_squares, over}
use Rattle.meaning.specs.Means as Means
use Rattle.meaning.specs.Means.{Values, halves, real_half, leave_real, plain_mixed}
use Rattle.meaning.specs.Preserved.{value_of}
use Rattle.meaning.proofs.Eval.{run}
use Rattle.meaning.proofs.Leaf.{Ready, leaves, temp-leaf, re_apart, put_other}
use Rattle.meaning.proofs.Stretch.{Computes, works, operand}

-- what is left: both halves, or the real one
pub left_real : (y : Bool) (x x' q : ℕ) (v : Value) → value_of y x x' ≡ v → value_of y q x' ≡ real_half v q
unfolding real_half
left_real true x x' q v e = ap (λ v. real_half v q) e
left_real false x x' q v e = ap (λ v. real_half v q) e

pub left_both : (y : Bool) (x x' u w : ℕ) (v : Value) → value_of y x x' ≡ v → value_of y u w ≡ halves v u w
unfolding halves
left_both true x x' u w v e = ap (λ v. halves v u w) e
left_both false x x' u w v e = ap (λ v. halves v u w) e

pub real_left : (v : Value) (q : ℕ) → re_of (real_half v q) ≡ q
unfolding real_half re_of
real_left (R x) q = refl
real_left (C x y) q = refl

pub true_false : (ρ : Realness) {a b : ℕ} → is_real_reg ρ a ≡ true → is_real_reg ρ b ≡ false → a ≢ b
true_false ρ ea eb e = true≢false (sym ea ∙ ap (is_real_reg ρ) e ∙ eb)

-- ---- plain Divide of a real by a complex register

module _ (k : List ℕ) (ρ : Realness) (d a b : ℕ) (hd : d < 32) (ha : a < 32) (hb : b < 32)
    (ea : is_real_reg ρ a ≡ true) (eb : is_real_reg ρ b ≡ false) (X : Values) (σ : Store) (h : Ready X ρ σ) where
  -- u and v are b's words, w Temp's value with q in its real half
  Mixed : List Work → Type 0
  Mixed l = Ready (plain_mixed (at σ (re b)) (at σ (im b)) d a b X) (set_reg ρ d false) (execs k l σ)

  -- neither operand is Temp
  mixed : a ≢ 31 → b ≢ 31 → Mixed (divide_lines true false d a b)
  unfolding Mixed divide_lines leaves rename run name re im bin_word uni_word fused_word re_of
  mixed na nb =
      temp-leaf k d a b hd ((0, 6) ∷ (0, 8) ∷ [])
      (λ e. re_apart 31 a (lit< tt) ha (λ z. na (sym z)) e, (λ e. re_apart 31 b (lit< tt) hb (λ z. nb (sym z)) e, tt))
      (divide_lines true false 0 1 2) (divide_lines true false d a b) refl false X ρ σ h _ _
      (λ i. over (Word.times (pa i) (pb i)) (Word.neg (Word.times (pa i) (at σ (im b)))) (fused_squares (at σ (re b)) (at σ (im b)))) tt
      (left_real (is_real_reg ρ 31) (at σ (re 31)) (at σ (im 31)) (fused_squares (at σ (re b)) (at σ (im b))) (X.reg 31) (h.holds.regs 31 (lit< tt)))
    where
      X' : Values
      X' = leave_real 31 (fused_squares (at σ (re b)) (at σ (im b))) X

      pa : at σ (re a) ≡ re_of (X'.reg a)
      pa = ap re_of (operand h a ha true ea ∙ sym (put_other X 31 _ a na))

      pb : at σ (re b) ≡ re_of (X'.reg b)
      pb = ap re_of (operand h b hb false eb ∙ sym (put_other X 31 _ b nb))

-- the dividend is Temp
module _ (k : List ℕ) (ρ : Realness) (d b : ℕ) (hd : d < 32) (hb : b < 32) (ea : is_real_reg ρ 31 ≡ true) (eb : is_real_reg ρ b ≡ false) (X : Values)
    (σ : Store) (h : Ready X ρ σ) where
  mixed-temp : Mixed k ρ d 31 b hd (lit< tt) hb ea eb X σ h (divide_lines true false d 31 b)
  unfolding Mixed divide_lines leaves rename run name re im bin_word uni_word fused_word re_of
  mixed-temp =
      temp-leaf k d 31 b hd ((0, 8) ∷ [])
      (λ e. re_apart 31 b (lit< tt) hb (true_false ρ ea eb) e, tt)
      (divide_lines true false 0 31 2) (divide_lines true false d 31 b) refl false X ρ σ h _ _
      (λ i. over (Word.times (pa i) (pb i)) (Word.neg (Word.times (pa i) (at σ (im b)))) (fused_squares (at σ (re b)) (at σ (im b)))) tt
      (left_real (is_real_reg ρ 31) (at σ (re 31)) (at σ (im 31)) (fused_squares (at σ (re b)) (at σ (im b))) (X.reg 31) (h.holds.regs 31 (lit< tt)))
    where
      q : ℕ
      q = fused_squares (at σ (re b)) (at σ (im b))

      pa : q ≡ re_of ((leave_real 31 q X).reg 31)
      pa = sym (real_left (X.reg 31) q)

      pb : at σ (re b) ≡ re_of ((leave_real 31 q X).reg b)
      pb = ap re_of (operand h b hb false eb ∙ sym (put_other X 31 _ b (λ z. true_false ρ ea eb (sym z))))

-- the divisor is Temp
module _ (k : List ℕ) (ρ : Realness) (d a : ℕ) (hd : d < 32) (ha : a < 32) (ea : is_real_reg ρ a ≡ true) (eb : is_real_reg ρ 31 ≡ false) (X : Values)
    (σ : Store) (h : Ready X ρ σ) where
  mixed-by-temp : Mixed k ρ d a 31 hd ha (lit< tt) ea eb X σ h (divide_lines true false d a 31)
  unfolding Mixed divide_lines leaves rename run name re im bin_word uni_word fused_word re_of
  mixed-by-temp =
      temp-leaf k d a 31 hd ((0, 6) ∷ [])
      (λ e. re_apart 31 a (lit< tt) ha (λ z. true_false ρ ea eb (sym z)) e, tt)
      (divide_lines true false 0 1 31) (divide_lines true false d a 31) refl false X ρ σ h _ _
      (λ i. over (Word.times (pa i) (pb i)) (Word.neg (Word.times (pa i) (at σ (im 31)))) (fused_squares (at σ (re 31)) (at σ (im 31)))) tt
      (left_real (is_real_reg ρ 31) (at σ (re 31)) (at σ (im 31)) (fused_squares (at σ (re 31)) (at σ (im 31))) (X.reg 31) (h.holds.regs 31 (lit< tt)))
    where
      q : ℕ
      q = fused_squares (at σ (re 31)) (at σ (im 31))

      pa : at σ (re a) ≡ re_of ((leave_real 31 q X).reg a)
      pa = ap re_of (operand h a ha true ea ∙ sym (put_other X 31 _ a (true_false ρ ea eb)))

      pb : q ≡ re_of ((leave_real 31 q X).reg 31)
      pb = sym (real_left (X.reg 31) q)

module _ (k : List ℕ) (B : List Work) (ρ : Realness) (d : ℕ) (hd : d < 32) where
  pub mixed-does : (a b : ℕ) → a < 32 → b < 32 → is_real_reg ρ a ≡ true → is_real_reg ρ b ≡ false
      → Computes k B (Means.divide Mode.Plain d a b) ρ (map Record.Work (divide_lines true false d a b)) (set_reg ρ d false)
  unfolding Means.divide_by Mixed
  mixed-does a b ha hb ea eb =
      works (divide_lines true false d a b) (λ X σ h.
      subst₂ (λ v w. Ready (Means.divide_by Mode.Plain v w d a b X) (set_reg ρ d false) (execs k (divide_lines true false d a b) σ))
      (operand h a ha true ea) (operand h b hb false eb) (go X σ h (ℕ_discrete a 31) (ℕ_discrete b 31)))
    where
      go : (X : Values) (σ : Store) (h : Ready X ρ σ) → Dec (a ≡ 31) → Dec (b ≡ 31)
          → Ready (plain_mixed (at σ (re b)) (at σ (im b)) d a b X) (set_reg ρ d false) (execs k (divide_lines true false d a b) σ)
      go X σ h (no na) (no nb) = mixed k ρ d a b hd ha hb ea eb X σ h na nb
      go X σ h (no na) (yes e) =
          subst (λ b. Ready (plain_mixed (at σ (re b)) (at σ (im b)) d a b X) (set_reg ρ d false) (execs k (divide_lines true false d a b) σ)) (sym e)
          (mixed-by-temp k ρ d a hd ha ea (ap (is_real_reg ρ) (sym e) ∙ eb) X σ h)
      go X σ h (yes e) q =
          subst (λ a. Ready (plain_mixed (at σ (re b)) (at σ (im b)) d a b X) (set_reg ρ d false) (execs k (divide_lines true false d a b) σ)) (sym e)
          (mixed-temp k ρ d b hd hb (ap (is_real_reg ρ) (sym e) ∙ ea) eb X σ h)
