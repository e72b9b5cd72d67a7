-- Abs and Recip, by whether the mode is stable and by the realness of their operands.
use mathlib.Core.Path.{◌≡◌, refl, subst, subst₂}
use mathlib.Core.Bool.{Bool, true, false}
use mathlib.Core.List.{List, [], map}
use Prim.Native.Nat.{ℕ, ◌<◌}
use lib.Dec.{T, lit<}
use Rattle.mir.specs.declared.records.Loc.{Loc}
use Rattle.mir.specs.declared.records.Work.{Work}
use Rattle.mir.specs.declared.records.Record.{Record}
use Rattle.mir.specs.Register.{re, im}
use Rattle.player_machine.specs.Machine.{Store, at, execs, uni_word, bin_word, fused_word}
use Rattle.lowering.specs.declared.realness.Realness.{Realness}
use Rattle.lowering.specs.Realness.{is_real_reg, set_reg}
use Rattle.lowering.specs.Lines.{abs_lines, recip_lines, stable_recip_lines, stable_abs_lines}
use Rattle.lowering.specs.Complexifier as c
use Rattle.lowering.specs.Complexifier.{State, emit, with_three, MIN_POSITIVE, INFINITY, QUARTER, EXP_MASK_FINITE, FLOOR_FINITE}
use Rattle.leftovers.proofs.Names.{name, rename}
use Rattle.meaning.specs.Value.{Value, R, modulus, inverse, inverse_in}
use Rattle.meaning.specs.Means.{Values, put, abs_leaves, recip_leaves}
use Rattle.meaning.specs.Preserved.{value_of}
use Rattle.meaning.proofs.Eval.{run}
use Rattle.meaning.proofs.Leaf.{Ready, passes, leaf, meaning}
use Rattle.meaning.proofs.Table.{Begins, three_at}
use Rattle.meaning.proofs.Stretch.{Computes, Does, works, operand}
use Rattle.meaning.proofs.Stable.{recip-stable, abs-stable}

module _ (k : List ℕ) (d a b : ℕ) (hd : d < 32) (X : Values) (ρ : Realness) (σ : Store) (h : Ready X ρ σ) where
  -- lines that only write d
  pub only-d : (l l' : List Work) (g : Bool) → T (passes [] false false g l) → rename d a b (Loc.Mem 0) l ≡ l' → (v : Value)
      → value_of g (run k l (meaning d a b (Loc.Mem 0) σ) 4) (run k l (meaning d a b (Loc.Mem 0) σ) 5) ≡ v → Ready (put d v X) (set_reg ρ d g) (execs k l' σ)
  only-d l l' g t e v ev =
      subst (λ l'. Ready (put d v X) (set_reg ρ d g) (execs k l' σ)) e
      (leaf k d a b (Loc.Mem 0) hd (lit< tt) false false [] tt l g t X ρ σ h v (R 0) (R 0) ev (λ t. absurd t) (λ t. absurd t))

module _ (k : List ℕ) (B : List Work) (ρ ρ' : Realness) where
  -- a step that goes by an operand's value, or by two
  pub by_one : (step : Value → Values → Values) (l : List Work) (a : ℕ) → a < 32 → (x : Bool) → is_real_reg ρ a ≡ x
      → ((X : Values) (σ : Store) → Ready X ρ σ → Ready (step (value_of x (at σ (re a)) (at σ (im a))) X) ρ' (execs k l σ))
      → Computes k B (λ X. step (X.reg a) X) ρ (map Record.Work l) ρ'
  by_one step l a ha x e f = works l (λ X σ h. subst (λ v. Ready (step v X) ρ' (execs k l σ)) (operand h a ha x e) (f X σ h))

  pub by_both : (step : Value → Value → Values → Values) (l : List Work) (a b : ℕ) → a < 32 → b < 32 → (x y : Bool) → is_real_reg ρ a ≡ x → is_real_reg ρ b ≡ y
      → ((X : Values) (σ : Store) → Ready X ρ σ
      → Ready (step (value_of x (at σ (re a)) (at σ (im a))) (value_of y (at σ (re b)) (at σ (im b))) X) ρ' (execs k l σ))
      → Computes k B (λ X. step (X.reg a) (X.reg b) X) ρ (map Record.Work l) ρ'
  by_both step l a b ha hb x y e e' f =
      works l (λ X σ h. subst₂ (λ v w. Ready (step v w X) ρ' (execs k l σ)) (operand h a ha x e) (operand h b hb y e') (f X σ h))

module _ (k : List ℕ) (B : List Work) (s : State) where
  module _ (d a : ℕ) (hd : d < 32) (ha : a < 32) where
    pub abs-does : (m x : Bool) → is_real_reg s.real a ≡ x → Begins (c.abs_by m x d a s).after.consts k
        → Does k B (λ X. put d (modulus m (X.reg a)) (abs_leaves m (X.reg a) X)) s (c.abs_by m x d a s)
    unfolding c.abs_by emit with_three abs_lines abs_leaves modulus passes rename run name uni_word bin_word
    abs-does m true e b =
        by_one k B s.real _ (λ v X. put d (modulus m v) (abs_leaves m v X)) (abs_lines true d a) a ha true e
        (λ X σ h. only-d k d a a hd X s.real σ h (abs_lines true 0 1) (abs_lines true d a) true tt refl _ refl)
    abs-does false false e b =
        by_one k B s.real _ (λ v X. put d (modulus false v) (abs_leaves false v X)) (abs_lines false d a) a ha false e
        (λ X σ h. only-d k d a a hd X s.real σ h (abs_lines false 0 1) (abs_lines false d a) false tt refl _ refl)
    abs-does true false e b =
        let t = three_at FLOOR_FINITE EXP_MASK_FINITE INFINITY s.consts b in
        by_one k B s.real _ (λ v X. put d (modulus true v) (abs_leaves true v X)) (stable_abs_lines d a _ _ _) a ha false e
        (λ X σ h. abs-stable k _ _ _ t.first t.second t.third s.real d a hd ha X σ h)

    pub recip-does : (m x : Bool) → is_real_reg s.real a ≡ x → Begins (c.recip_by m x d a s).after.consts k
        → Does k B (λ X. put d (inverse_in m (X.reg a)) (recip_leaves m (X.reg a) X)) s (c.recip_by m x d a s)
    unfolding c.recip_by emit with_three recip_lines recip_leaves inverse_in inverse passes rename run name uni_word bin_word fused_word
    recip-does m true e b =
        by_one k B s.real _ (λ v X. put d (inverse_in m v) (recip_leaves m v X)) (recip_lines true d a) a ha true e
        (λ X σ h. only-d k d a a hd X s.real σ h (recip_lines true 0 1) (recip_lines true d a) true tt refl _ refl)
    recip-does false false e b =
        by_one k B s.real _ (λ v X. put d (inverse_in false v) (recip_leaves false v X)) (recip_lines false d a) a ha false e
        (λ X σ h. only-d k d a a hd X s.real σ h (recip_lines false 0 1) (recip_lines false d a) false tt refl _ refl)
    recip-does true false e b =
        let t = three_at MIN_POSITIVE INFINITY QUARTER s.consts b in
        by_one k B s.real _ (λ v X. put d (inverse_in true v) (recip_leaves true v X)) (stable_recip_lines d a _ _ _) a ha false e
        (λ X σ h. recip-stable k _ _ _ t.first t.second t.third s.real d a hd ha X σ h)
