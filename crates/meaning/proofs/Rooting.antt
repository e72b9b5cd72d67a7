-- Root and RealRoot: the steps around the block's call.
use mathlib.Core.Path.{◌≡◌, refl, sym, ap, ◌∙◌, subst}
use mathlib.Core.Bool.{Bool, true, false, cond}
use mathlib.Core.List.{List}
use Prim.Native.Nat.{ℕ, ◌<◌}
use native.Mathlib.Nat.{suc-add, zero-add}
use lib.Dec.{eqb, lit<}
use Rattle.mir.specs.declared.records.Work.{Work}
use Rattle.player_machine.specs.Machine.{execs, reach, uni_word}
use Rattle.lowering.specs.Realness.{is_real_reg, set_reg}
use Rattle.lowering.specs.Lines.{real_root_lines}
use Rattle.lowering.specs.Complexifier as c
use Rattle.lowering.specs.Complexifier.{State, then, emit, one_by_one, around_block}
use Rattle.leftovers.proofs.Names.{name, rename}
use Rattle.leftovers.proofs.Methods.{two}
use Rattle.leftovers.proofs.Clearing.{complex-set}
use Rattle.leftovers.proofs.Root.{over-reach, root_defines}
use Rattle.meaning.specs.Value as Value
use Rattle.meaning.specs.Value.{Value, re_of, im_of, wide, turned, root_in, real_root_in}
use Rattle.meaning.specs.Means.{Values, put, widen, root_leaves, real_root_leaves}
use Rattle.meaning.proofs.Eval.{run}
use Rattle.meaning.proofs.Leaf.{Ready, passes, put_here}
use Rattle.meaning.proofs.Table.{Begins}
use Rattle.meaning.proofs.Stretch.{Does, join, recast, operand}
use Rattle.meaning.proofs.Methods.{mov-does}
use Rattle.meaning.proofs.Modes.{only-d, by_one}
use Rattle.meaning.proofs.Places.{ensure-does}
use Rattle.meaning.proofs.Steps.{same_values, unlisted_does}
use Rattle.meaning.proofs.Root.{after_block, block-ready}

-- what a Call plays: the root block, by whether the sheet's mode is stable, whose constants stand in the table
pub record RootBlock (m : Bool) (k : List ℕ) (B : List Work) : Type 0 where
  pub consts : List ℕ
  pub is : c.block_of m consts ≡ B
  pub begins : Begins (c.block_consts m consts) k

pub call_does : (k : List ℕ) (B : List Work) (m : Bool) (s : State) → RootBlock m k B → is_real_reg s.real 31 ≡ false
    → Does k B (after_block m) s (c.call_root s)
unfolding c.call_root reach
call_does k B m s b e = record {
  F = execs k B;
  stands = λ j rest σ. rw (suc-add 0 j, zero-add j);
  ready = λ X σ h. subst (λ B. Ready (after_block m X) (set_reg s.real 30 false) (execs k B σ)) b.is (block-ready k s.real X σ h e m b.consts b.begins);
}

define_does : (k : List ℕ) (B : List Work) (q m : Bool) (s : State) → Does k B (λ X. X) s (c.define_root q m s)
unfolding c.define_root
define_does k B true m s = unlisted_does k B s
define_does k B false m s = record { F = λ σ. σ; stands = over-reach k B (c.block_of m s.consts); ready = λ X σ h. h }

module _ (k : List ℕ) (B : List Work) (m : Bool) (b : RootBlock m k B) (s : State) (d a : ℕ) (hd : d < 32) (ha : a < 32) where
  s₁ : State
  s₁ = (c.ensure_complex a s).after

  s₂ : State
  s₂ = (c.fmov 31 a s₁).after

  temp-complex : is_real_reg s₂.real 31 ≡ false
  unfolding s₁ s₂ c.fmov one_by_one c.ensure_complex emit
  temp-complex =
      let ρ = set_reg s.real a false in
      ap (λ x. is_real_reg (set_reg ρ 31 x) 31) (complex-set s.real a) ∙ complex-set ρ 31

  -- the listing's steps are those of the meaning: Temp is put twice
  as-root : (X : Values) → let X₃ = after_block m (put 31 ((widen a X).reg a) (widen a X)) in
      put d (X₃.reg 30) X₃ ≡ put d (root_in m (X.reg a)) (root_leaves m (X.reg a) (widen a X))
  unfolding re_of im_of
  as-root X =
      same_values
      (λ r. two (λ q. cond (eqb r d) (turned v) (cond (eqb r 30) (turned v) (cond q v (cond q (X'.reg a) (X'.reg r))))
      ≡ cond (eqb r d) (turned v) (cond (eqb r 30) (turned v) (cond q v (X'.reg r)))) refl refl (eqb r 31))
      (λ p. refl)
      ∙ ap (λ v. put d (root_in m v) (root_leaves m v X')) (put_here X a (wide (X.reg a)) a refl)
    where
      X' : Values
      X' = widen a X

      v : Value
      v = Value.one_root m (re_of (X'.reg a)) (im_of (X'.reg a))

  pub root_does : Does k B (λ X. put d (root_in m (X.reg a)) (root_leaves m (X.reg a) (widen a X))) s (c.root m d a s)
  unfolding c.root then s₁ s₂
  root_does =
      recast as-root
      (join (join (join (join (ensure-does k B s a ha) (mov-does k B s₁ 31 a (lit< tt) ha)) (call_does k B m s₂ b temp-complex))
      (mov-does k B (c.call_root s₂).after d 30 hd (lit< tt)))
      (define_does k B (c.fmov d 30 (c.call_root s₂).after).after.is_root_defined m (c.fmov d 30 (c.call_root s₂).after).after))

pub real_root_does : (k : List ℕ) (B : List Work) (m : Bool) (s : State) (d a : ℕ) → d < 32 → a < 32 → (x : Bool) → is_real_reg s.real a ≡ x
    → ((c.real_root_by m x d a s).after.is_root_defined ≡ true → RootBlock m k B)
    → Does k B (λ X. put d (real_root_in m (X.reg a)) (real_root_leaves m (X.reg a) a X)) s (c.real_root_by m x d a s)
unfolding c.real_root_by emit real_root_lines real_root_in real_root_leaves passes rename run name uni_word
real_root_does k B m s d a hd ha true e b =
    by_one k B s.real _ (λ v X. put d (real_root_in m v) (real_root_leaves m v a X)) (real_root_lines d a) a ha true e
    (λ X σ h. only-d k d a a hd X s.real σ h (real_root_lines 0 1) (real_root_lines d a) true tt refl _ refl)
real_root_does k B m s d a hd ha false e b =
    let r = root_does k B m (b (root_defines m d a s)) s d a hd ha in
    record {
      F = r.F;
      stands = r.stands;
      ready = λ X σ h.
          subst (λ v. Ready (put d (real_root_in m v) (real_root_leaves m v a X)) (c.root m d a s).after.real (r.F σ)) (operand h a ha false e)
          (subst (λ v. Ready (put d (root_in m v) (root_leaves m v (widen a X))) (c.root m d a s).after.real (r.F σ)) (sym (operand h a ha false e)) (r.ready X σ h));
    }
