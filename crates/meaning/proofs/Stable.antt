-- Abs, Recip and Divide in stable mode, of and by a complex register.
use mathlib.Core.Path.{◌≡◌, refl, sym, ap, ◌∙◌, subst}
use mathlib.Core.Bool.{Bool, true, false}
use mathlib.Core.Logic.{◌≢◌}
use mathlib.Core.List.{List, [], ◌∷◌, ◌++◌}
use Prim.Native.Nat.{ℕ, ◌<◌}
use native.Mathlib.Omega.{arith}
use native.Mathlib.Decide.{ℕ_discrete, dec_lt}
use lib.ListN.{get_or}
use lib.Dec.{lit<, ltb}
use borrow.Author.Tests.{lt-ltb, ne_eqb}
use Rattle.mir.specs.declared.records.Loc.{Loc}
use Rattle.mir.specs.Register.{re, im}
use Rattle.float.specs.Word as Word
use Rattle.player_machine.specs.Machine.{Store, at, execs, uni_word, bin_word, fused_word, complex_words}
use Rattle.lowering.specs.declared.realness.Realness.{Realness}
use Rattle.lowering.specs.Realness.{is_real_reg, set_reg}
use Rattle.lowering.specs.Lines.{stable_exponent, stable_divisor_scale, scaled_divide, stable_divide_lines, stable_recip_lines, stable_abs_lines}
use Rattle.lowering.specs.Complexifier.{MIN_POSITIVE, INFINITY, QUARTER, EXP_MASK_FINITE, FLOOR_FINITE}
use Rattle.leftovers.proofs.Names.{name, rename, im_apart}
use Rattle.meaning.specs.Value.{Value, R, C, re_of, im_of, half_size, squares, scale, inverse, inverse_in, times, quotient, modulus}
use Rattle.meaning.specs.Means.{Values, put, halves, real_half, leave, abs_leaves, recip_leaves, divide_leaves, into_temp, stable_divide}
use Rattle.meaning.specs.Preserved.{value_of}
use Rattle.meaning.proofs.Eval.{run}
use Rattle.meaning.proofs.Leaf.{Ready, passes, leaf, leaves, temp-leaf, ret-leaf, re_apart}
use Rattle.meaning.proofs.Scratch.{left_real, left_both}

-- the factors with other words for their constants
abbrev scale_by : ℕ → ℕ → ℕ → ℕ → ℕ → ℕ
scale_by f g h u v = Word.times (Word.xor (Word.and (Word.plus (half_size u v) f) g) g) h

abbrev power_by : ℕ → ℕ → ℕ → ℕ → ℕ
power_by f g x y = Word.and (Word.plus (half_size x y) f) g

abbrev size_by : ℕ → ℕ → ℕ → ℕ → ℕ → ℕ
size_by f g h x y = let k = Word.half (Word.xor (power_by f g x y) h) in Word.root (squares (Word.times x k) (Word.times y k))

module _ (k : List ℕ) (i j q : ℕ) (ei : get_or k i 0 ≡ MIN_POSITIVE) (ej : get_or k j 0 ≡ INFINITY) (eq : get_or k q 0 ≡ QUARTER) (ρ : Realness) where
  pub scaled : (u v : ℕ) → scale_by (get_or k i 0) (get_or k j 0) (get_or k q 0) u v ≡ scale u v
  scaled u v = λ t. scale_by (ei t) (ej t) (eq t) u v

  module _ (d a : ℕ) (hd : d < 32) (ha : a < 32) (X : Values) (σ : Store) (h : Ready X ρ σ) where
    pub recip-stable : let v = C (at σ (re a)) (at σ (im a)) in
        Ready (put d (inverse_in true v) (recip_leaves true v X)) (set_reg ρ d false) (execs k (stable_recip_lines d a i j q) σ)
    unfolding inverse_in recip_leaves stable_recip_lines stable_divisor_scale stable_exponent leaves rename run name re im bin_word uni_word fused_word times inverse re_of im_of
    recip-stable =
        temp-leaf k d a a hd [] tt (stable_recip_lines 0 1 i j q) (stable_recip_lines d a i j q) refl false X ρ σ h _ _
        (ap (λ s. times (inverse (times (C x y) (R s))) (R s)) (scaled x y)) tt
        (left_both (is_real_reg ρ 31) (at σ (re 31)) (at σ (im 31)) _ _ (X.reg 31) (h.holds.regs 31 (lit< tt))
        ∙ ap (λ s. let w = inverse (times (C x y) (R s)) in halves (X.reg 31) (re_of w) (im_of w)) (scaled x y))
      where
        x : ℕ
        x = at σ (re a)

        y : ℕ
        y = at σ (im a)

  -- ---- Divide, of general registers (others are barred)

  module _ (a b : ℕ) (ha : a < 30) (hb : b < 30) (X : Values) (σ : Store) (h : Ready X ρ σ) where
    -- the dividend, by its realness, scaled by s, and the divisor
    unfoldable pub dividend : Bool → ℕ → Value
    dividend x s = times (value_of x (at σ (re a)) (at σ (im a))) (R s)

    unfoldable pub divisor : ℕ → Value
    divisor s = times (C (at σ (re b)) (at σ (im b))) (R s)

    s₀ : ℕ
    s₀ = scale_by (get_or k i 0) (get_or k j 0) (get_or k q 0) (at σ (re b)) (at σ (im b))

    far-pair : (r d : ℕ) → r < 32 → d < 32 → r ≢ d → (re r ≢ re d) × (im r ≢ im d)
    far-pair r d hr hd n = (re_apart r d hr hd n, im_apart r d hr hd n)

    -- d is general
    into-general : (d : ℕ) → d < 30 → (x : Bool)
        → Ready (put d (quotient (dividend x s₀) (divisor s₀)) (leave 31 (divide_leaves false (dividend x s₀) (divisor s₀)) X)) (set_reg ρ d false)
        (execs k (stable_divide_lines true x d a b i j q) σ)
    unfolding stable_divide_lines scaled_divide stable_divisor_scale stable_exponent passes rename run name re im bin_word uni_word fused_word complex_words times quotient re_of im_of divide_leaves dividend divisor s₀
    into-general d hd true =
        leaf k d a b (Loc.Mem 0) (omega arith) (lit< tt) true false ((0, 4) ∷ (1, 5) ∷ (0, 8) ∷ (1, 9) ∷ [])
        (fd.0, (fd.1, (fb.0, (fb.1, tt)))) (stable_divide_lines true true 0 1 2 i j q) false tt X ρ σ h _ _ (R 0) refl
        (λ t n. (tt, left_both (is_real_reg ρ 31) (at σ (re 31)) (at σ (im 31)) _ _ (X.reg 31) (h.holds.regs 31 (lit< tt)))) (λ t. absurd t)
      where
        fd : (re 31 ≢ re d) × (im 31 ≢ im d)
        fd = far-pair 31 d (lit< tt) (omega arith) (omega arith)

        fb : (re 31 ≢ re b) × (im 31 ≢ im b)
        fb = far-pair 31 b (lit< tt) (omega arith) (omega arith)
    into-general d hd false =
        leaf k d a b (Loc.Mem 0) (omega arith) (lit< tt) true false ((0, 4) ∷ (1, 5) ∷ (0, 8) ∷ (1, 9) ∷ [])
        (fd.0, (fd.1, (fb.0, (fb.1, tt)))) (stable_divide_lines true false 0 1 2 i j q) false tt X ρ σ h _ _ (R 0) refl
        (λ t n. (tt, left_both (is_real_reg ρ 31) (at σ (re 31)) (at σ (im 31)) _ _ (X.reg 31) (h.holds.regs 31 (lit< tt)))) (λ t. absurd t)
      where
        fd : (re 31 ≢ re d) × (im 31 ≢ im d)
        fd = far-pair 31 d (lit< tt) (omega arith) (omega arith)

        fb : (re 31 ≢ re b) × (im 31 ≢ im b)
        fb = far-pair 31 b (lit< tt) (omega arith) (omega arith)

    -- d is Ret
    into-ret : (x : Bool)
        → Ready (put 30 (quotient (dividend x s₀) (divisor s₀)) (leave 31 (divisor s₀) X)) (set_reg ρ 30 false)
        (execs k (stable_divide_lines false x 30 a b i j q) σ)
    unfolding stable_divide_lines scaled_divide stable_divisor_scale stable_exponent passes rename run name re im bin_word uni_word fused_word complex_words times quotient re_of im_of divide_leaves dividend divisor s₀
    into-ret true =
        leaf k 30 a b (Loc.Mem 0) (lit< tt) (lit< tt) true false ((0, 4) ∷ (1, 5) ∷ (4, 8) ∷ (5, 9) ∷ [])
        (omega arith, (omega arith, (fb.0, (fb.1, tt)))) (stable_divide_lines false true 0 1 2 i j q) false tt X ρ σ h _ _ (R 0) refl
        (λ t n. (tt, left_both (is_real_reg ρ 31) (at σ (re 31)) (at σ (im 31)) _ _ (X.reg 31) (h.holds.regs 31 (lit< tt)))) (λ t. absurd t)
      where
        fb : (re 30 ≢ re b) × (im 30 ≢ im b)
        fb = far-pair 30 b (lit< tt) (omega arith) (omega arith)
    into-ret false =
        leaf k 30 a b (Loc.Mem 0) (lit< tt) (lit< tt) true false ((0, 4) ∷ (1, 5) ∷ (4, 8) ∷ (5, 9) ∷ [])
        (omega arith, (omega arith, (fb.0, (fb.1, tt)))) (stable_divide_lines false false 0 1 2 i j q) false tt X ρ σ h _ _ (R 0) refl
        (λ t n. (tt, left_both (is_real_reg ρ 31) (at σ (re 31)) (at σ (im 31)) _ _ (X.reg 31) (h.holds.regs 31 (lit< tt)))) (λ t. absurd t)
      where
        fb : (re 30 ≢ re b) × (im 30 ≢ im b)
        fb = far-pair 30 b (lit< tt) (omega arith) (omega arith)

    -- d is Temp: the dividend is overwritten
    into-temp : (x : Bool)
        → Ready (put 31 (into_temp (dividend x s₀) (divisor s₀)) X) (set_reg ρ 31 false) (execs k (stable_divide_lines false x 31 a b i j q) σ)
    unfolding stable_divide_lines scaled_divide stable_divisor_scale stable_exponent passes rename run name re im bin_word uni_word fused_word complex_words times quotient re_of im_of into_temp dividend divisor s₀
    into-temp true =
        leaf k 31 a b (Loc.Mem 0) (lit< tt) (lit< tt) false false ((4, 8) ∷ (5, 9) ∷ [])
        (fb.0, (fb.1, tt)) (stable_divisor_scale 8 9 i j q ++ scaled_divide true 0 1 2 4 5 4 5) false tt X ρ σ h _ (R 0) (R 0) refl
        (λ t. absurd t) (λ t. absurd t)
      where
        fb : (re 31 ≢ re b) × (im 31 ≢ im b)
        fb = far-pair 31 b (lit< tt) (omega arith) (omega arith)
    into-temp false =
        leaf k 31 a b (Loc.Mem 0) (lit< tt) (lit< tt) false false ((4, 8) ∷ (5, 9) ∷ [])
        (fb.0, (fb.1, tt)) (stable_divisor_scale 8 9 i j q ++ scaled_divide false 0 1 2 4 5 4 5) false tt X ρ σ h _ (R 0) (R 0) refl
        (λ t. absurd t) (λ t. absurd t)
      where
        fb : (re 31 ≢ re b) × (im 31 ≢ im b)
        fb = far-pair 31 b (lit< tt) (omega arith) (omega arith)

    s₀-is : s₀ ≡ scale (at σ (re b)) (at σ (im b))
    unfolding s₀
    s₀-is = scaled (at σ (re b)) (at σ (im b))

    pub divide-stable : (d : ℕ) → d < 32 → (x : Bool)
        → Ready (stable_divide (dividend x (scale (at σ (re b)) (at σ (im b)))) (divisor (scale (at σ (re b)) (at σ (im b)))) d X) (set_reg ρ d false)
        (execs k (stable_divide_lines (ltb d 30) x d a b i j q) σ)
    unfolding divide_leaves
    divide-stable d hd x =
        subst (λ s. Ready (stable_divide (dividend x s) (divisor s) d X) (set_reg ρ d false) (execs k (stable_divide_lines (ltb d 30) x d a b i j q) σ))
        s₀-is (go (dec_lt d 30) (ℕ_discrete d 30))
      where
        go : Dec (d < 30) → Dec (d ≡ 30)
            → Ready (stable_divide (dividend x s₀) (divisor s₀) d X) (set_reg ρ d false) (execs k (stable_divide_lines (ltb d 30) x d a b i j q) σ)
        go (yes l) z =
            rw (ne_eqb d 31 (omega arith), ne_eqb d 30 (omega arith), lt-ltb d 30 l) (into-general d l x)
        go (no n) (yes e) =
            subst (λ d. Ready (stable_divide (dividend x s₀) (divisor s₀) d X) (set_reg ρ d false) (execs k (stable_divide_lines (ltb d 30) x d a b i j q) σ))
            (sym e) (into-ret x)
        go (no n) (no m) =
            subst (λ d. Ready (stable_divide (dividend x s₀) (divisor s₀) d X) (set_reg ρ d false) (execs k (stable_divide_lines (ltb d 30) x d a b i j q) σ))
            (sym e) (into-temp x)
          where
            e : d ≡ 31
            e = omega arith

module _ (k : List ℕ) (i j q : ℕ) (ei : get_or k i 0 ≡ FLOOR_FINITE) (ej : get_or k j 0 ≡ EXP_MASK_FINITE) (eq : get_or k q 0 ≡ INFINITY) (ρ : Realness) where
  module _ (d a : ℕ) (hd : d < 32) (ha : a < 32) (X : Values) (σ : Store) (h : Ready X ρ σ) where
    pub abs-stable : let v = C (at σ (re a)) (at σ (im a)) in
        Ready (put d (modulus true v) (abs_leaves true v X)) (set_reg ρ d false) (execs k (stable_abs_lines d a i j q) σ)
    unfolding abs_leaves stable_abs_lines stable_exponent leaves rename run name re im bin_word uni_word fused_word modulus
    abs-stable =
        ret-leaf k d a a hd [] tt (stable_abs_lines 0 1 i j q) (stable_abs_lines d a i j q) refl false X ρ σ h _ _
        (λ t. C (Word.times (size_by (ei t) (ej t) (eq t) x y) (power_by (ei t) (ej t) x y)) 0) tt
        (left_real (is_real_reg ρ 30) (at σ (re 30)) (at σ (im 30)) _ (X.reg 30) (h.holds.regs 30 (lit< tt))
        ∙ (λ t. real_half (X.reg 30) (size_by (ei t) (ej t) (eq t) x y)))
      where
        x : ℕ
        x = at σ (re a)

        y : ℕ
        y = at σ (im a)
