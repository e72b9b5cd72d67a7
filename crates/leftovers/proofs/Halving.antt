-- Half: in the Rust's modes it writes what is not kept from a real register into a real one, and from a complex one only what is; in mode 2
-- it is a method like any other, without a condition.
use mathlib.Core.Path.{◌≡◌, refl, sym, ap, ◌∙◌}
use mathlib.Core.Bool.{Bool, true, false, true≢false}
use mathlib.Core.Logic.{◌≢◌}
use mathlib.Core.List.{List, [], ◌∷◌}
use Prim.Native.Nat.{ℕ, ◌<◌}
use native.Mathlib.Omega.{arith}
use lib.ListN.{set, length-set}
use lib.Seq.{get_or-set_other, set-get_or}
use lib.Dec.{T, lit<}
use Rattle.mir.specs.declared.ops.UniOp.{UniOp}
use Rattle.mir.specs.declared.records.Loc.{Loc}
use Rattle.mir.specs.declared.records.Work.{Work}
use Rattle.mir.specs.Register.{im}
use Rattle.player_machine.specs.Machine.{Store, at, uni_word, writes, put, exec, execs}
use Rattle.sheet.specs.declared.setup.Mode.{Mode}
use Rattle.sheet.specs.Setup.{is_minding}
use Rattle.lowering.specs.declared.realness.Realness.{Realness}
use Rattle.lowering.specs.Realness.{is_real_reg, is_real_loc, set_reg}
use Rattle.lowering.specs.Lines.{half_lines, minding_half_lines}
use Rattle.lowering.specs.Complexifier as c
use Rattle.lowering.specs.Complexifier.{State, copied}
use Rattle.leftovers.specs.Kept.{Kept, kept_re, kept_im, kept_word, kept_next}
use Rattle.player_machine.proofs.Agreeing.{Agree}
use Rattle.leftovers.proofs.Rows.{all_in, check, given}
use Rattle.leftovers.proofs.Names.{rename, good, lines_undrawn, lines_frame, leaf-agree, re_in, im_next, halves_apart, im_apart}
use Rattle.leftovers.proofs.Held.{all_listed}
use Rattle.leftovers.proofs.Names.{rename_held}
use Rattle.leftovers.proofs.Stretch.{works_safe}
use Rattle.leftovers.proofs.Methods.{Keeps, two, unary}

-- ---- Half

-- a word that is kept is no imaginary half of a register recorded as real
kept_apart : {ρ : Realness} {w : ℕ} (d : ℕ) → d < 32 → is_real_reg ρ d ≡ true → Kept ρ w → w ≢ im d
kept_apart d hd e (kept_re r h) = halves_apart r d
kept_apart {ρ} d hd e (kept_im r h f) = im_apart r d h hd (λ q. true≢false (sym e ∙ ap (is_real_reg ρ) (sym q) ∙ f))
kept_apart d hd e (kept_word p h) = omega (arith, im_next d, (re_in d).0)
kept_apart d hd e (kept_next p h f) = omega (arith, im_next d, (re_in d).0)

-- writing different bits to a word that is not kept
set_apart : {C : ℕ → Type 0} {σ τ : Store} (i v u : ℕ) → ((w : ℕ) → C w → w ≢ i) → Agree C σ τ → Agree C (set σ i v) (set τ i u)
set_apart {C} {σ} {τ} i v u n g =
    record { len = simp length-set g.len; on = λ w c. get_or-set_other σ i w v 0 (n w c) ∙ g.on w c ∙ sym (get_or-set_other τ i w u 0 (n w c)) }

set_back : (ρ : Realness) (d : ℕ) → set_reg ρ d (is_real_reg ρ d) ≡ ρ
set_back ρ d = λ i. record { regs = set-get_or ρ.regs d false i; places = ρ.places }

module _ (k : List ℕ) (B : List Work) (Z : ℕ → Type 0) (H : Type 0) (s : State) (d a : ℕ) (hd : d < 32) (ha : a < 32) where
  half-agree : (x : Bool) → is_real_reg s.real a ≡ x → (x ≡ true → is_real_reg s.real d ≡ true) → (σ τ : Store)
      → Agree (Kept s.real) σ τ
      → Agree (Kept s.real) (execs k (half_lines d a) σ) (execs k (half_lines d a) τ)
  unfolding half_lines good rename execs exec writes put is_real_loc
  half-agree false e c σ τ g =
      let t = two (λ g. T (good false false false g (half_lines 0 1))) tt tt (is_real_reg s.real d) in
      let q = is_real_reg s.real d in
      rw set_back at (leaf-agree s.real d a a (Loc.Mem 0) hd ha ha (lit< tt) false false false e e refl k q (half_lines 0 1) t g)
  half-agree true e c σ τ g =
      let h = set_apart (im d) (uni_word UniOp.Half (at σ (im a))) (uni_word UniOp.Half (at τ (im a))) (λ w q. kept_apart d hd (c refl) q) g in
      let q = is_real_reg s.real d in
      let l = Work.Uni UniOp.Half 4 6 ∷ [] in
      rw set_back at (leaf-agree s.real d a a (Loc.Mem 0) hd ha ha (lit< tt) true true false e e refl k q l (rw (c refl) tt) h)

  half-by-keeps : (t : Bool) → (H → t ≡ false → is_real_reg s.real a ≡ true → is_real_reg s.real d ≡ true)
      → Keeps k B (λ r. r ≡ d) Z H s (c.half_by t d a s)
  unfolding c.half_by c.minding_half half_lines minding_half_lines good rename check given all_in all_listed
  half-by-keeps false c =
      works_safe (half_lines d a) (λ σ τ h g. half-agree (is_real_reg s.real a) refl (c h refl) σ τ g)
      (lines_frame (λ r. r ≡ d) Z d a a (Loc.Mem 0) k (half_lines 0 1) tt (λ r h n. n))
      (λ few. rename_held d a a (Loc.Mem 0) k (half_lines 0 1) few (lit< tt) tt tt)
      (λ i h. lines_undrawn d a a (Loc.Mem 0) (6 ∷ 7 ∷ []) (half_lines 0 1) i h tt tt)
  half-by-keeps true c = unary k B Z H s minding_half_lines copied d a hd ha (tt, refl, tt) (tt, refl, tt)

  pub half_keeps : (m : Mode) → (H → is_minding m ≡ false → is_real_reg s.real a ≡ true → is_real_reg s.real d ≡ true)
      → Keeps k B (λ r. r ≡ d) Z H s (c.half m d a s)
  unfolding c.half
  half_keeps m c = half-by-keeps (is_minding m) c
