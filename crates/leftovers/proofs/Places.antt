-- Loads and saves, and the record of real places.
use mathlib.Core.Path.{◌≡◌, refl, sym, ◌∙◌}
use mathlib.Core.Bool.{Bool, true, false}
use mathlib.Core.Logic.{◌⊎◌, ⊎_elim, inl, inr}
use mathlib.Core.List.{List, [], ◌∷◌, map}
use Prim.Native.Nat.{ℕ, suc, ◌+◌, ◌<◌}
use native.Mathlib.Omega.{arith}
use native.Mathlib.Decide.{ℕ_discrete}
use Rattle.mir.specs.declared.records.Loc.{Loc}
use Rattle.mir.specs.declared.records.Work.{Work}
use Rattle.mir.specs.declared.records.Record.{Record}
use Rattle.mir.specs.Place.{index}
use Rattle.player_machine.specs.Machine.{place}
use Rattle.lowering.specs.declared.realness.Realness.{Realness}
use Rattle.lowering.specs.Realness.{is_real_reg, is_real_loc, without_loc, set_reg}
use Rattle.lowering.specs.Lines.{load_lines, save_lines}
use Rattle.lowering.specs.Complexifier as c
use Rattle.lowering.specs.Complexifier.{State, then, emit}
use Rattle.leftovers.specs.Kept.{Kept, kept_re, kept_im, kept_word, kept_next}
use Rattle.player_machine.proofs.Agreeing.{weaken}
use Rattle.leftovers.proofs.Rows.{Named, all_in, given, check, known}
use Rattle.leftovers.proofs.Names.{rename, good, name, lines_agree, lines_undrawn, lines_frame}
use Rattle.mir.proofs.IfRead.{Saved}
use Rattle.leftovers.proofs.Held.{all_listed}
use Rattle.leftovers.proofs.Names.{rename_held}
use Rattle.leftovers.proofs.Stretch.{Safe, join, leaf, works_safe}
use Rattle.lowering.specs.Complexifier.{saved_realness}
use Rattle.leftovers.proofs.Bit.{clear_other}
use Rattle.leftovers.proofs.Methods.{Keeps}
use Rattle.leftovers.proofs.Clearing.{ensure-keeps, complex-set}

-- ---- places

pub load_keeps : (k : List ℕ) (B : List Work) (Z : ℕ → Type 0) (H : Type 0) (s : State) (d : ℕ) (p : Loc) → d < 32 → index p < 256
    → Keeps k B (λ r. r ≡ d) Z H s (c.load_from d p s)
unfolding c.load_from load_lines emit good rename
load_keeps k B Z H s d p hd hp = go (is_real_loc s.real.places p) (is_real_reg s.real d) refl refl
  where
    go : (z x : Bool) → is_real_loc s.real.places p ≡ z → is_real_reg s.real d ≡ x
        → Safe k B (λ r. r ≡ d) Z H s.real (map Record.Work (load_lines z d p)) (set_reg s.real d z)
    go true x e q =
        leaf k B Z H s.real d d d p hd hd hd hp x x true true q q e (load_lines true 0 (Loc.Stack 2)) (load_lines true d p) tt refl tt
    go false true e q =
        leaf k B Z H s.real d d d p hd hd hd hp true true false false q q e (load_lines false 0 (Loc.Stack 2)) (load_lines false d p) tt refl tt
    go false false e q =
        leaf k B Z H s.real d d d p hd hd hd hp false false false false q q e (load_lines false 0 (Loc.Stack 2)) (load_lines false d p) tt refl tt

kept_saved : {ρ : Realness} {w : ℕ} (p : Loc) → index p < 256 → Kept (saved_realness p ρ) w → Kept ρ w ⊎ (suc (place p) ≡ w)
unfolding is_real_loc without_loc
kept_saved (Loc.Mem i) l q = inl q
kept_saved (Loc.Param i) l q = inl q
kept_saved (Loc.Stack i) l (kept_re r h) = inl (kept_re r h)
kept_saved (Loc.Stack i) l (kept_im r h e) = inl (kept_im r h e)
kept_saved (Loc.Stack i) l (kept_word p h) = inl (kept_word p h)
kept_saved {ρ} (Loc.Stack i) l (kept_next (Loc.Stack j) h e) = go (ℕ_discrete j i)
  where
    go : Dec (j ≡ i) → Kept ρ (suc (place (Loc.Stack j))) ⊎ (suc (place (Loc.Stack i)) ≡ suc (place (Loc.Stack j)))
    go (yes q) = inr (rw q)
    go (no n) = inl (kept_next (Loc.Stack j) h (sym (clear_other ρ.places i j n) ∙ e))
kept_saved (Loc.Stack i) l (kept_next (Loc.Mem j) h e) = inl (kept_next (Loc.Mem j) h e)
kept_saved {ρ} (Loc.Stack i) l (kept_next (Loc.Param j) h e) =
    inl (kept_next (Loc.Param j) h (sym (clear_other ρ.places i (256 + j) (omega arith)) ∙ e))

module _ (k : List ℕ) (B : List Work) (X Z : ℕ → Type 0) (H : Type 0) (a : ℕ) (p : Loc) (ha : a < 32) (hp : index p < 256) (sv : Saved p) where
  store_keeps : (ρ : Realness) → is_real_reg ρ a ≡ false → Safe k B X Z H ρ (map Record.Work (save_lines a p)) (saved_realness p ρ)
  unfolding save_lines all_listed rename name Named check known given all_in
  store_keeps ρ e =
      works_safe (save_lines a p)
      (λ σ τ _ g. weaken (λ w q. ⊎_elim (λ q. inl q) (λ e. inr (71, tt, e)) (kept_saved p hp q))
      (lines_agree ρ 31 a a p k (6 ∷ 7 ∷ []) l (kept_re a ha, (kept_im a ha e, tt)) tt g))
      (lines_frame X Z 31 a a p k l tt (λ r h n. omega arith))
      (λ few. rename_held 31 a a p k l few hp tt (sv, tt))
      (λ i h. lines_undrawn 31 a a p (6 ∷ 7 ∷ []) l i h tt tt)
    where
      l : List Work
      l = Work.SaveComplex 6 7 (Loc.Stack 2) ∷ []

  pub save-keeps : (s : State) → (is_real_reg s.real a ≡ true → Z a) → Keeps k B X Z H s (c.save_to a p s)
  unfolding c.save_to then c.ensure_complex emit
  save-keeps s z = join (ensure-keeps k B X Z H s a ha z) (store_keeps (set_reg s.real a false) (complex-set s.real a))
