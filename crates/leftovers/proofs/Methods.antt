-- Each method that only lists lines keeps the agreement: its lines pass the check in every case of realness.
use mathlib.Core.Path.{◌≡◌, refl}
use mathlib.Core.Bool.{Bool, true, false}
use mathlib.Core.List.{List}
use Prim.Native.Nat.{ℕ, ◌≤◌, ◌<◌}
use lib.ListN.{length}
use lib.Dec.{T, ltb}
use Rattle.mir.specs.declared.ops.UniOp.{UniOp}
use Rattle.mir.specs.declared.ops.BinOp.{BinOp}
use Rattle.mir.specs.declared.records.Loc.{Loc}
use Rattle.mir.specs.declared.records.Work.{Work}
use Rattle.mir.specs.Register.{re, im}
use Rattle.mir.specs.Takes.{takes_uni, takes_bin}
use Rattle.lowering.specs.Realness.{is_real_reg}
use Rattle.lowering.specs.Lines.{stable_exponent, stable_divisor_scale, scaled_divide, stable_divide_lines, stable_recip_lines, stable_abs_lines}
use Rattle.lowering.specs.Lines.{fmov_lines, each_lines}
use Rattle.lowering.specs.Lines.{abs_lines, recip_lines, plus_lines, minus_lines, times_lines}
use Rattle.lowering.specs.Lines.{order_lines, bits_lines}
use Rattle.lowering.specs.Complexifier as c
use Rattle.lowering.specs.Complexifier.{State, Out, emit, one_by_one, by_two, with_three, copied, promoted, both_as_real}
use Rattle.leftovers.proofs.Names.{rename, good}
use Rattle.lowering.specs.Complexifier.{three_consts}
use Rattle.leftovers.proofs.Held.{Asks}
use Rattle.leftovers.proofs.Constants.{three_found}
use Rattle.leftovers.proofs.Stretch.{Safe, leaf₂}

-- a method's outcome
abbrev pub Keeps : List ℕ → List Work → (ℕ → Type 0) → (ℕ → Type 0) → Type 0 → State → Out → Type 0
Keeps k B X Z H s o = Safe k B X Z H s.real o.records o.after.real

pub two : (P : Bool → Type 0) → P true → P false → (x : Bool) → P x
two P t f true = t
two P t f false = f

pub four : (P : Bool → Bool → Type 0) → P true true → P true false → P false true → P false false → (x y : Bool) → P x y
four P a b c d true true = a
four P a b c d true false = b
four P a b c d false true = c
four P a b c d false false = d

-- lines l' at d, a and b are lines l at 0, 1 and 2, and those pass the test: proved by (tt, refl, tt)
abbrev pub Fits : List ℕ → ℕ → ℕ → ℕ → Bool → Bool → Bool → List Work → List Work → Type 0
Fits k d a b x y g l l' = T (good x y false g l) × (rename d a b (Loc.Mem 0) l ≡ l') × Asks (length k) (Loc.Mem 0) l

module _ (k : List ℕ) (B : List Work) (Z : ℕ → Type 0) (H : Type 0) (s : State) where
  -- lines L by the realness of one operand, that leave the destination as g says
  pub unary : (L : Bool → ℕ → ℕ → List Work) (g : Bool → Bool) (d a : ℕ) → d < 32 → a < 32
      → Fits k d a a true true (g true) (L true 0 1) (L true d a) → Fits k d a a false false (g false) (L false 0 1) (L false d a)
      → Keeps k B (λ r. r ≡ d) Z H s (one_by_one L g d a s)
  unfolding emit one_by_one
  unary L g d a hd ha t f =
      let x = is_real_reg s.real a in
      let q = two (λ x. Fits k d a a x x (g x) (L x 0 1) (L x d a)) t f x in
      leaf₂ k B Z H s.real d a a hd ha ha x x (g x) refl refl (L x 0 1) (L x d a) q.0 q.1 q.2

  pub binary : (L : Bool → Bool → ℕ → ℕ → ℕ → List Work) (g : Bool → Bool → Bool) (d a b : ℕ) → d < 32 → a < 32 → b < 32
      → Fits k d a b true true (g true true) (L true true 0 1 2) (L true true d a b)
      → Fits k d a b true false (g true false) (L true false 0 1 2) (L true false d a b)
      → Fits k d a b false true (g false true) (L false true 0 1 2) (L false true d a b)
      → Fits k d a b false false (g false false) (L false false 0 1 2) (L false false d a b)
      → Keeps k B (λ r. r ≡ d) Z H s (by_two L g d a b s)
  unfolding emit by_two
  binary L g d a b hd ha hb rr rc cr cc =
      let x = is_real_reg s.real a in
      let y = is_real_reg s.real b in
      let q = four (λ x y. Fits k d a b x y (g x y) (L x y 0 1 2) (L x y d a b)) rr rc cr cc x y in
      leaf₂ k B Z H s.real d a b hd ha hb x y (g x y) refl refl (L x y 0 1 2) (L x y d a b) q.0 q.1 q.2

  -- lines whose realness case is settled
  pub settled : (d a b : ℕ) → d < 32 → a < 32 → b < 32 → (x y g : Bool) → is_real_reg s.real a ≡ x → is_real_reg s.real b ≡ y
      → (l l' : List Work) → Fits k d a b x y g l l'
      → Keeps k B (λ r. r ≡ d) Z H s (emit s l' d g)
  unfolding emit
  settled d a b hd ha hb x y g ex ey l l' q = leaf₂ k B Z H s.real d a b hd ha hb x y g ex ey l l' q.0 q.1 q.2

  -- lines that name three constants of the table
  pub three : (u v w : ℕ) (L L' : ℕ → ℕ → ℕ → List Work) (d a b : ℕ) → d < 32 → a < 32 → b < 32 → (x y : Bool)
      → is_real_reg s.real a ≡ x → is_real_reg s.real b ≡ y → length (three_consts u v w s.consts) ≤ length k
      → ((i j q : ℕ) → i < length k → j < length k → q < length k → Fits k d a b x y false (L i j q) (L' i j q))
      → Keeps k B (λ r. r ≡ d) Z H s (with_three u v w L' d s)
  unfolding with_three emit
  three u v w L L' d a b hd ha hb x y ex ey hk f =
      let h = three_found u v w s.consts (length k) hk in
      let q = f _ _ _ h.first h.second h.third in
      leaf₂ k B Z H s.real d a b hd ha hb x y false ex ey (L _ _ _) (L' _ _ _) q.0 q.1 q.2

  module _ (d a : ℕ) (hd : d < 32) (ha : a < 32) where
    pub fmov-keeps : Keeps k B (λ r. r ≡ d) Z H s (c.fmov d a s)
    unfolding c.fmov fmov_lines good rename
    fmov-keeps = unary fmov_lines (λ x. x) d a hd ha (tt, refl, tt) (tt, refl, tt)

    -- each operation that a listing takes
    pub each_keeps : (op : UniOp) → takes_uni true op ≡ true → Keeps k B (λ r. r ≡ d) Z H s (one_by_one (each_lines op) copied d a s)
    unfolding each_lines good rename
    each_keeps op e = unary (each_lines op) copied d a hd ha (simp e tt, refl, tt) (simp e tt, refl, tt)

    pub abs-keeps : (m x : Bool) → is_real_reg s.real a ≡ x → length (c.abs_by m x d a s).after.consts ≤ length k
        → Keeps k B (λ r. r ≡ d) Z H s (c.abs_by m x d a s)
    unfolding c.abs_by abs_lines stable_abs_lines stable_exponent good rename re im
    abs-keeps m true e hk = settled d a a hd ha ha true true true e e (abs_lines true 0 1) _ (tt, refl, tt)
    abs-keeps false false e hk = settled d a a hd ha ha false false false e e (abs_lines false 0 1) _ (tt, refl, tt)
    abs-keeps true false e hk =
        three _ _ _ (stable_abs_lines 0 1) (stable_abs_lines d a) d a a hd ha ha false false e e hk (λ i j q hi hj hq. (tt, refl, (hi, (hj, (hq, tt)))))

    pub recip-keeps : (m x : Bool) → is_real_reg s.real a ≡ x → length (c.recip_by m x d a s).after.consts ≤ length k
        → Keeps k B (λ r. r ≡ d) Z H s (c.recip_by m x d a s)
    unfolding c.recip_by recip_lines stable_recip_lines stable_divisor_scale stable_exponent good rename re im
    recip-keeps m true e hk = settled d a a hd ha ha true true true e e (recip_lines true 0 1) _ (tt, refl, tt)
    recip-keeps false false e hk = settled d a a hd ha ha false false false e e (recip_lines false 0 1) _ (tt, refl, tt)
    recip-keeps true false e hk =
        three _ _ _ (stable_recip_lines 0 1) (stable_recip_lines d a) d a a hd ha ha false false e e hk
        (λ i j q hi hj hq. (tt, refl, (hi, (hj, (hq, tt)))))

  module _ (d a b : ℕ) (hd : d < 32) (ha : a < 32) (hb : b < 32) where
    -- a stable Divide by a complex register
    pub stable-divide-keeps : (x : Bool) → is_real_reg s.real a ≡ x → is_real_reg s.real b ≡ false
        → length (c.stable_divide x d a b s).after.consts ≤ length k → Keeps k B (λ r. r ≡ d) Z H s (c.stable_divide x d a b s)
    unfolding c.stable_divide stable_divide_lines stable_divisor_scale scaled_divide stable_exponent good rename re im
    stable-divide-keeps x ex ey hk =
        three _ _ _ (stable_divide_lines (ltb d 30) x 0 1 2) (stable_divide_lines (ltb d 30) x d a b) d a b hd ha hb x false ex ey hk
        (λ i j q hi hj hq.
        four (λ g x. Fits k d a b x false false (stable_divide_lines g x 0 1 2 i j q) (stable_divide_lines g x d a b i j q))
        (tt, refl, (hi, (hj, (hq, tt)))) (tt, refl, (hi, (hj, (hq, tt)))) (tt, refl, (hi, (hj, (hq, tt)))) (tt, refl, (hi, (hj, (hq, tt))))
        (ltb d 30) x)

    pub plus-keeps : Keeps k B (λ r. r ≡ d) Z H s (c.plus d a b s)
    unfolding c.plus plus_lines good rename
    plus-keeps = binary plus_lines promoted d a b hd ha hb (tt, refl, tt) (tt, refl, tt) (tt, refl, tt) (tt, refl, tt)

    pub minus-keeps : Keeps k B (λ r. r ≡ d) Z H s (c.minus d a b s)
    unfolding c.minus minus_lines good rename
    minus-keeps = binary minus_lines promoted d a b hd ha hb (tt, refl, tt) (tt, refl, tt) (tt, refl, tt) (tt, refl, tt)

    pub times-keeps : Keeps k B (λ r. r ≡ d) Z H s (c.times d a b s)
    unfolding c.times times_lines good rename
    times-keeps = binary times_lines promoted d a b hd ha hb (tt, refl, tt) (tt, refl, tt) (tt, refl, tt) (tt, refl, tt)

    pub order-keeps : (op : BinOp) → takes_bin true op ≡ true → Keeps k B (λ r. r ≡ d) Z H s (by_two (order_lines op) both_as_real d a b s)
    unfolding order_lines good rename
    order-keeps op e = binary (order_lines op) both_as_real d a b hd ha hb (simp e tt, refl, tt) (simp e tt, refl, tt) (simp e tt, refl, tt) (simp e tt, refl, tt)

    pub bits-keeps : (op : BinOp) → takes_bin true op ≡ true → Keeps k B (λ r. r ≡ d) Z H s (c.bits op d a b s)
    unfolding c.bits bits_lines good rename
    bits-keeps op e = binary (bits_lines op) promoted d a b hd ha hb (simp e tt, refl, tt) (simp e tt, refl, tt) (simp e tt, refl, tt) (simp e tt, refl, tt)
