-- Root: what the block leaves in Temp, Ret and Stack 2, and the steps around its call.
use mathlib.Core.Path.{◌≡◌, refl, sym, ap, ◌∙◌, subst, subst₃}
use mathlib.Core.Bool.{Bool, true, false, cond}
use mathlib.Core.List.{List, [], ◌∷◌, ◌++◌, map}
use Prim.Native.Nat.{ℕ}
use native.Mathlib.Omega.{arith}
use lib.ListN.{get_or}
use lib.Dec.{T, eqb, lit<}
use Rattle.mir.specs.declared.ops.UniOp.{UniOp}
use Rattle.mir.specs.declared.ops.BinOp.{BinOp}
use Rattle.mir.specs.declared.records.Loc.{Loc}
use Rattle.mir.specs.declared.records.Work.{Work}
use Rattle.mir.specs.Register.{re, im}
use Rattle.float.specs.Word as Word
use Rattle.player_machine.specs.Machine.{Store, at, execs, uni_word, bin_word, fused_word}
use Rattle.lowering.specs.declared.realness.Realness.{Realness}
use Rattle.lowering.specs.Realness.{is_real_reg, is_real_loc, set_reg}
use Rattle.lowering.specs.Lines.{stable_exponent, stable_root_magnitude, plain_root_magnitude, root_block}
use Rattle.lowering.specs.Complexifier as c
use Rattle.lowering.specs.Complexifier.{INFINITY, EXP_MASK_FINITE, FLOOR_FINITE}
use Rattle.leftovers.proofs.Rows.{ren}
use Rattle.leftovers.proofs.Names.{name, rename}
use Rattle.leftovers.proofs.Methods.{two}
use Rattle.meaning.specs.Value.{Value, R, C, re_of, im_of, each, half_size, larger_plain, larger, smaller, turned}
use Rattle.meaning.specs.Means.{Values, put, put_place, real_half, root_leaves}
use Rattle.meaning.specs.Preserved.{value_of}
use Rattle.meaning.proofs.Eval.{run}
use Rattle.meaning.proofs.Leaf.{Ready, passes, leaf}
use Rattle.meaning.proofs.Table.{Begins, three_at}
use Rattle.meaning.proofs.Stretch.{real-word, operand}
use Rattle.meaning.proofs.Scratch.{left_real, real_left}
use Rattle.meaning.proofs.Places.{stores, place-leaf}

-- ---- the first three lines: whether the real half is above 0, to Stack 2

asked : List Work
asked = Work.Bi BinOp.Xor 2 2 2 ∷ Work.Bi BinOp.LittleThan 2 2 0 ∷ Work.Save 2 (Loc.Stack 2) ∷ []

module _ (k : List ℕ) (ρ : Realness) (X : Values) (σ : Store) (h : Ready X ρ σ) where
  asked-ready : Ready (put_place (Loc.Stack 2) (real_half (X.place (Loc.Stack 2)) (Word.little_than 0 (at σ 0))) X) ρ (execs k asked σ)
  unfolding asked stores rename run name bin_word
  asked-ready =
      place-leaf k 31 (Loc.Stack 2) (lit< tt) asked (is_real_loc ρ.places (Loc.Stack 2))
      (two (λ z. T (stores z asked)) tt tt (is_real_loc ρ.places (Loc.Stack 2))) X ρ ρ.places σ h _ refl (λ q hq n. refl)
      (left_real (is_real_loc ρ.places (Loc.Stack 2)) (at σ 70) (at σ 71) (Word.little_than 0 (at σ 0)) (X.place (Loc.Stack 2))
      (h.holds.places (Loc.Stack 2) (lit< tt)))

-- ---- the others

-- with another word for "above 0", and for the larger half
abbrev root_by : ℕ → ℕ → ℕ → Value
root_by q t y = let s = smaller y t in C (Word.if_else q t s) (Word.if_else q s t)

-- behind the magnitude
rest : List Work
rest =
    Work.Bi BinOp.Divide 3 1 2
    ∷ Work.Uni UniOp.Half 3 3
    ∷ Work.Bi BinOp.Equal 0 3 3
    ∷ Work.Bi BinOp.And 3 3 0
    ∷ Work.IfElse 0 2 3 (Loc.Stack 2)
    ∷ Work.IfElse 1 3 2 (Loc.Stack 2)
    ∷ Work.Uni UniOp.Sign 2 0
    ∷ Work.Bi BinOp.Xor 64 0 2
    ∷ Work.Bi BinOp.Xor 65 1 2
    ∷ []

-- Ret under the names of d
back : ℕ → ℕ
back n = cond (eqb n 64) 4 (cond (eqb n 65) 5 n)

named : List Work → List Work
named l = map (ren back (λ q. q)) l

-- the larger half in stable mode, with other words for the constants
abbrev larger_by : ℕ → ℕ → ℕ → ℕ → ℕ → ℕ
larger_by f g i x y =
    let r = Word.and (Word.root (Word.and (Word.plus (half_size x y) f) g)) g in
    let k = Word.half (Word.xor (Word.times r r) i) in
    Word.times (larger_plain (Word.times x k) (Word.times y k)) r

-- Temp, recorded as complex
complex_value : (z : Bool) (x y : ℕ) → z ≡ false → value_of z x y ≡ C x y
complex_value z x y e = ap (λ z. value_of z x y) e

module _ (k : List ℕ) (ρ : Realness) (X : Values) (σ : Store) (h : Ready X ρ σ) (e : is_real_reg ρ 31 ≡ false) where
  -- the values behind the block, with the larger half t
  Rooted : ℕ → List Work → Type 0
  Rooted t l =
      Ready (put 30 (turned (root_by (at σ 70) t (at σ 1))) (put 31 (root_by (at σ 70) t (at σ 1)) X)) (set_reg ρ 30 false) (execs k (l ++ rest) σ)

  plain_ready : Rooted (larger_plain (at σ 0) (at σ 1)) plain_root_magnitude
  unfolding Rooted plain_root_magnitude rest named back ren passes rename run name re im uni_word bin_word fused_word each re_of
  plain_ready =
      leaf k 30 31 31 (Loc.Stack 2) (lit< tt) (lit< tt) true false ((0, 4) ∷ (1, 5) ∷ []) (omega arith, (omega arith, tt))
      (named (plain_root_magnitude ++ rest)) false tt X ρ σ h _ _ (R 0) refl
      (λ t n. (tt, complex_value (is_real_reg ρ 31) _ _ e)) (λ t. absurd t)

  stable-ready : (i j q : ℕ) → Rooted (larger_by (get_or k i 0) (get_or k j 0) (get_or k q 0) (at σ 0) (at σ 1)) (stable_root_magnitude i j q)
  unfolding Rooted stable_root_magnitude stable_exponent rest named back ren passes rename run name re im uni_word bin_word fused_word each re_of
  stable-ready i j q =
      leaf k 30 31 31 (Loc.Stack 2) (lit< tt) (lit< tt) true false ((0, 4) ∷ (1, 5) ∷ []) (omega arith, (omega arith, tt))
      (named (stable_root_magnitude i j q ++ rest)) false tt X ρ σ h _ _ (R 0) refl
      (λ t n. (tt, complex_value (is_real_reg ρ 31) _ _ e)) (λ t. absurd t)

-- ---- the block

abbrev pub after_block : Bool → Values → Values
after_block m X = root_leaves m (X.reg 31) X

module _ (k : List ℕ) (ρ : Realness) (X : Values) (σ : Store) (h : Ready X ρ σ) (e : is_real_reg ρ 31 ≡ false) where
  σ₁ : Store
  σ₁ = execs k asked σ

  x : ℕ
  x = re_of (X.reg 31)

  y : ℕ
  y = im_of (X.reg 31)

  X₁ : ℕ → Values
  X₁ q = put_place (Loc.Stack 2) (real_half (X.place (Loc.Stack 2)) q) X

  temp-is : {Y : Values} (τ : Store) → Ready Y ρ τ → C (at τ 0) (at τ 1) ≡ Y.reg 31
  unfolding re im
  temp-is τ g = operand g 31 (lit< tt) false e

  h₁ : Ready (X₁ (Word.little_than 0 x)) ρ σ₁
  unfolding X₁ σ₁ x re_of
  h₁ = subst (λ x. Ready (X₁ (Word.little_than 0 x)) ρ σ₁) (ap re_of (temp-is σ h)) (asked-ready k ρ X σ h)

  x-is : at σ₁ 0 ≡ x
  unfolding X₁ x re_of
  x-is = ap re_of (temp-is σ₁ h₁)

  y-is : at σ₁ 1 ≡ y
  unfolding X₁ y im_of
  y-is = ap im_of (temp-is σ₁ h₁)

  q-is : at σ₁ 70 ≡ Word.little_than 0 x
  unfolding X₁
  q-is =
      sym (real-word (is_real_loc ρ.places (Loc.Stack 2)) (at σ₁ 70) (at σ₁ 71))
      ∙ ap re_of (h₁.holds.places (Loc.Stack 2) (lit< tt))
      ∙ real_left (X.place (Loc.Stack 2)) (Word.little_than 0 x)

  Behind : ℕ → ℕ → ℕ → List Work → Type 0
  Behind q t y l =
      Ready (put 30 (turned (root_by q t y)) (put 31 (root_by q t y) (X₁ (Word.little_than 0 x)))) (set_reg ρ 30 false) (execs k (l ++ rest) σ₁)

  plain-behind : Behind (Word.little_than 0 x) (larger false x y) y plain_root_magnitude
  unfolding Behind Rooted larger
  plain-behind =
      subst₃ (λ q x y. Behind q (larger_plain x y) y plain_root_magnitude) q-is x-is y-is (plain_ready k ρ (X₁ (Word.little_than 0 x)) σ₁ h₁ e)

  stable-behind : (i j q : ℕ) → get_or k i 0 ≡ FLOOR_FINITE → get_or k j 0 ≡ EXP_MASK_FINITE → get_or k q 0 ≡ INFINITY
      → Behind (Word.little_than 0 x) (larger true x y) y (stable_root_magnitude i j q)
  unfolding Behind Rooted larger
  stable-behind i j q ei ej eq =
      subst₃ (λ f g i'. Behind (Word.little_than 0 x) (larger_by f g i' x y) y (stable_root_magnitude i j q)) ei ej eq
      (subst₃ (λ q' x y. Behind q' (larger_by (get_or k i 0) (get_or k j 0) (get_or k q 0) x y) y (stable_root_magnitude i j q)) q-is x-is y-is
      (stable-ready k ρ (X₁ (Word.little_than 0 x)) σ₁ h₁ e i j q))

  pub block-ready : (m : Bool) (consts : List ℕ) → Begins (c.block_consts m consts) k
      → Ready (after_block m X) (set_reg ρ 30 false) (execs k (c.block_of m consts) σ)
  unfolding c.block_of c.block_consts root_block Behind σ₁ x y X₁ asked rest execs re im
  block-ready false consts b = plain-behind
  block-ready true consts b =
      let t = three_at FLOOR_FINITE EXP_MASK_FINITE INFINITY consts b in
      stable-behind _ _ _ t.first t.second t.third
