-- `ensure_complex` clears an imaginary half: the methods that begin with it.
use mathlib.Core.Path.{◌≡◌, refl, sym, ◌∙◌, subst}
use mathlib.Core.Bool.{Bool, true, false, true≢false}
use mathlib.Core.Logic.{◌⊎◌, ⊎_elim, inl, inr}
use mathlib.Core.List.{List, [], ◌∷◌, map}
use Prim.Native.Nat.{ℕ, ◌<◌}
use native.Mathlib.Omega.{arith}
use native.Mathlib.Decide.{ℕ_discrete, dec_lt}
use lib.ListN.{length, get_or, set, length-set, get_or-eq_default}
use lib.Seq.{get_or-set_same, get_or-set_other}
use lib.Dec.{lit<}
use Rattle.mir.specs.declared.ops.BinOp.{BinOp}
use Rattle.mir.specs.declared.records.Loc.{Loc}
use Rattle.mir.specs.declared.records.Work.{Work}
use Rattle.mir.specs.declared.records.Record.{Record}
use Rattle.mir.specs.Register.{re, im}
use Rattle.mir.specs.Place.{index}
use Rattle.mir.specs.Takes.{takes_bin}
use Rattle.player_machine.specs.Machine.{Store, at, bin_word, writes, put, exec, execs}
use Rattle.lowering.specs.declared.realness.Realness.{Realness}
use Rattle.lowering.specs.Realness.{is_real_reg, is_real_loc, set_reg}
use Rattle.lowering.specs.Lines.{ensure_lines}
use Rattle.lowering.specs.Lines.{compare_lines, ifelse_lines}
use Rattle.lowering.specs.Complexifier as c
use Rattle.lowering.specs.Complexifier.{State, then, emit}
use Rattle.leftovers.specs.Kept.{Kept, kept_im}
use Rattle.player_machine.proofs.Drawing.{xor-zero}
use Rattle.player_machine.proofs.Agreeing.{weaken}
use Rattle.leftovers.proofs.Names.{rename, good, kept_new, leaf-agree, leaf_undrawn, halves_apart, im_apart}
use Rattle.mir.proofs.Decoding.{none}
use Rattle.mir.proofs.IfRead.{Stacked}
use Rattle.leftovers.proofs.Held.{all_listed}
use Rattle.leftovers.proofs.Names.{rename_held}
use Rattle.leftovers.proofs.Stretch.{Safe, join, leaf, leaf₂, works_safe}
use Rattle.leftovers.proofs.Names.{Frame}
use Rattle.leftovers.proofs.Methods.{Keeps}

-- ---- clearing an imaginary half

-- what was set is read again, also past the end where it is what is read there
set_here : {A : Type 0} (l : List A) (i : ℕ) (a : A) → get_or (set l i a) i a ≡ a
set_here l i a = go (dec_lt i (length l))
  where
    go : Dec (i < length l) → get_or (set l i a) i a ≡ a
    go (yes h) = get_or-set_same l i a a h
    go (no h) = get_or-eq_default (set l i a) a {n = i} (omega (arith, length-set l i a))

module _ (k : List ℕ) (B : List Work) (X Z : ℕ → Type 0) (H : Type 0) (s : State) (a : ℕ) (ha : a < 32) where
  clear-frame : Z a → (σ : Store) → Frame X Z σ (execs k (Work.Bi BinOp.Xor (im a) (im a) (im a) ∷ []) σ)
  unfolding execs exec writes put
  clear-frame z σ r h n = go (ℕ_discrete r a)
    where
      v : ℕ
      v = bin_word BinOp.Xor (at σ (im a)) (at σ (im a))

      go : Dec (r ≡ a)
          → (at (set σ (im a) v) (re r) ≡ at σ (re r)) × ((at (set σ (im a) v) (im r) ≡ at σ (im r)) ⊎ (Z r × (at (set σ (im a) v) (im r) ≡ 0)))
      go (yes e) = (get_or-set_other σ (im a) (re r) v 0 (halves_apart r a), inr (rw e z, rw (e, xor-zero (at σ (im a))) (set_here σ (im a) 0)))
      go (no e) =
          (get_or-set_other σ (im a) (re r) v 0 (halves_apart r a), inl (get_or-set_other σ (im a) (im r) v 0 (im_apart r a (omega arith) ha e)))

  pub ensure-keeps : (is_real_reg s.real a ≡ true → Z a) → Keeps k B X Z H s (c.ensure_complex a s)
  unfolding c.ensure_complex ensure_lines emit good rename execs is_real_loc all_listed
  ensure-keeps z = go (is_real_reg s.real a) refl
    where
      go : (x : Bool) → is_real_reg s.real a ≡ x → Safe k B X Z H s.real (map Record.Work (ensure_lines x a)) (set_reg s.real a false)
      go true e =
          let l = ensure_lines true 0 in
          works_safe (ensure_lines true a)
          (λ σ τ _ g. leaf-agree s.real a a a (Loc.Mem 0) ha ha ha (lit< tt) true true false e e refl k false l tt g)
          (clear-frame (z e))
          (λ few. rename_held a a a (Loc.Mem 0) k l few (lit< tt) tt tt)
          (leaf_undrawn a a a (Loc.Mem 0) true true false false l tt)
      go false e =
          works_safe []
          (λ σ τ _ g. weaken (λ w q. ⊎_elim (λ q. q) (λ c. subst (Kept s.real) c (kept_im a ha e)) (kept_new a q)) g)
          (λ σ r h n. (refl, inl refl))
          (λ few. none)
          (λ i h d. d)

-- ---- the record of realness after a register is set complex

pub complex-set : (ρ : Realness) (d : ℕ) → is_real_reg (set_reg ρ d false) d ≡ false
complex-set ρ d = set_here ρ.regs d false

pub complex_stays : (ρ : Realness) (d r : ℕ) → is_real_reg ρ r ≡ false → is_real_reg (set_reg ρ d false) r ≡ false
complex_stays ρ d r e = go (ℕ_discrete r d)
  where
    go : Dec (r ≡ d) → is_real_reg (set_reg ρ d false) r ≡ false
    go (yes q) = rw q (complex-set ρ d)
    go (no n) = get_or-set_other ρ.regs d r false false n ∙ e

pub real_before : (ρ : Realness) (d r : ℕ) → is_real_reg (set_reg ρ d false) r ≡ true → is_real_reg ρ r ≡ true
real_before ρ d r e = go (is_real_reg ρ r) refl
  where
    go : (x : Bool) → is_real_reg ρ r ≡ x → x ≡ true
    go true q = refl
    go false q = absurd (true≢false (sym e ∙ complex_stays ρ d r q))

module _ (k : List ℕ) (B : List Work) (Z : ℕ → Type 0) (H : Type 0) (s : State) (d a b : ℕ) (hd : d < 32) (ha : a < 32) (hb : b < 32)
    (za : is_real_reg s.real a ≡ true → Z a) (zb : is_real_reg s.real b ≡ true → Z b) where
  -- both operands made complex
  ρ₂ : Realness
  ρ₂ = set_reg (set_reg s.real a false) b false

  a-complex : is_real_reg ρ₂ a ≡ false
  unfolding ρ₂
  a-complex = complex_stays (set_reg s.real a false) b a (complex-set s.real a)

  b-complex : is_real_reg ρ₂ b ≡ false
  unfolding ρ₂
  b-complex = complex-set (set_reg s.real a false) b

  both-keep : (X : ℕ → Type 0) → Keeps k B X Z H s (then (c.ensure_complex a s) (c.ensure_complex b))
  unfolding then
  both-keep X =
      join (ensure-keeps k B X Z H s a ha za)
      (ensure-keeps k B X Z H (c.ensure_complex a s).after b hb
      (λ e. zb (real_before s.real a b (unfold c.ensure_complex emit in e))))

  pub compare-keeps : (op by : BinOp) → takes_bin true op ≡ true → takes_bin true by ≡ true → Keeps k B (λ r. r ≡ d) Z H s (c.compare op by d a b s)
  unfolding c.compare then emit c.ensure_complex good rename compare_lines ρ₂
  compare-keeps op by e f =
      join (both-keep (λ r. r ≡ d))
      (leaf₂ k B Z H ρ₂ d a b hd ha hb false false true a-complex b-complex (compare_lines op by 0 1 2) (compare_lines op by d a b) (simp (e, f) tt) refl tt)

  pub ifelse-keeps : (p : Loc) → index p < 256 → Stacked p → Keeps k B (λ r. r ≡ d) Z H s (c.ifelse d a b p s)
  unfolding c.ifelse then emit c.ensure_complex good rename ifelse_lines ρ₂
  ifelse-keeps p hp st =
      let z = is_real_loc ρ₂.places p in
      join (both-keep (λ r. r ≡ d))
      (leaf k B Z H ρ₂ d a b p hd ha hb hp false false z false a-complex b-complex refl
      (ifelse_lines 0 1 2 (Loc.Stack 2)) (ifelse_lines d a b p) tt refl (st, (st, tt)))
