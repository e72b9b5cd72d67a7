-- Divide, by mode and by the realness of its operands.
use mathlib.Core.Path.{◌≡◌, refl, sym, ap, ◌∙◌, subst}
use mathlib.Core.Bool.{Bool, true, false, cond}
use mathlib.Core.List.{List}
use Prim.Native.Nat.{ℕ, ◌<◌}
use lib.Dec.{lit<, ltb, eqb}
use Rattle.mir.specs.declared.records.Work.{Work}
use Rattle.mir.specs.declared.records.Record.{Record}
use Rattle.sheet.specs.declared.setup.Mode.{Mode}
use Rattle.sheet.specs.Setup.{is_stable}
use Rattle.player_machine.specs.Machine.{at, uni_word, bin_word, fused_word, complex_words}
use Rattle.mir.specs.Register.{re, im}
use Rattle.lowering.specs.declared.realness.Realness.{Realness}
use Rattle.lowering.specs.Realness.{is_real_reg}
use Rattle.lowering.specs.Lines.{divide_lines, stable_divide_lines}
use Rattle.lowering.specs.Complexifier as c
use Rattle.lowering.specs.Complexifier.{State, then, emit, with_three, MIN_POSITIVE, INFINITY, QUARTER}
use Rattle.leftovers.proofs.Names.{name, rename}
use Rattle.leftovers.proofs.Methods.{two}
use Rattle.meaning.specs.Value.{Value, R, C, times, scale, quotient}
use Rattle.meaning.specs.Means as Means
use Rattle.meaning.specs.Means.{Values, put, leave, divide_leaves, stable_divide}
use Rattle.meaning.proofs.Eval.{run}
use Rattle.meaning.proofs.Leaf.{Ready, passes}
use Rattle.meaning.proofs.Table.{Begins, three_at}
use Rattle.meaning.proofs.Stretch.{Computes, Does, join, operand}
use Rattle.meaning.proofs.Methods.{mov-does}
use Rattle.meaning.proofs.Modes.{only-d, by_both}
use Rattle.meaning.proofs.Steps.{same_values}
use Rattle.meaning.proofs.Scratch.{mixed-does}
use Rattle.meaning.proofs.Stable.{divide-stable, dividend, divisor}

module _ (k : List ℕ) (B : List Work) (s : State) (a b : ℕ) (ha : a < 32) (hb : b < 32) where
  -- by a complex register in stable mode
  stable-does : (d : ℕ) → d < 32 → (x : Bool) → is_real_reg s.real a ≡ x → is_real_reg s.real b ≡ false → (a < 30) × (b < 30)
      → Begins (c.stable_divide x d a b s).after.consts k → Does k B (Means.divide Mode.Stable d a b) s (c.stable_divide x d a b s)
  unfolding c.stable_divide emit with_three Means.divide_by dividend divisor
  stable-does d hd true ex ey r bk =
      let t = three_at MIN_POSITIVE INFINITY QUARTER s.consts bk in
      by_both k B s.real _ (λ v w X. Means.divide_by Mode.Stable v w d a b X) (stable_divide_lines (ltb d 30) true d a b _ _ _) a b ha hb true false ex ey
      (λ X σ h. divide-stable k _ _ _ t.first t.second t.third s.real a b r.0 r.1 X σ h d hd true)
  stable-does d hd false ex ey r bk =
      let t = three_at MIN_POSITIVE INFINITY QUARTER s.consts bk in
      by_both k B s.real _ (λ v w X. Means.divide_by Mode.Stable v w d a b X) (stable_divide_lines (ltb d 30) false d a b _ _ _) a b ha hb false false ex ey
      (λ X σ h. divide-stable k _ _ _ t.first t.second t.third s.real a b r.0 r.1 X σ h d hd false)

-- ---- mode 2

-- the same step where a register holds a complex value
recast_complex : {k : List ℕ} {B : List Work} {f g : Values → Values} {ρ ρ' : Realness} {rs : List Record} (b : ℕ) → b < 32 → is_real_reg ρ b ≡ false
    → ((X : Values) (u w : ℕ) → C u w ≡ X.reg b → f X ≡ g X) → Computes k B f ρ rs ρ' → Computes k B g ρ rs ρ'
recast_complex {ρ' = ρ'} b hb ey e c = record {
  F = c.F;
  stands = c.stands;
  ready = λ X σ h. subst (λ Y. Ready Y ρ' (c.F σ)) (e X (at σ (re b)) (at σ (im b)) (operand h b hb false ey)) (c.ready X σ h);
}

-- the steps by which it is listed are its own: what the Divide into Ret leaves in Temp is overwritten by the move
into-temp : (v : Value) (u w d a b : ℕ) (X : Values) → eqb d 31 ≡ true
    → let Y = Means.divide_by Mode.Stable v (C u w) 30 a b X in put 31 (Y.reg 30) Y ≡ Means.divide_by Mode.Minding v (C u w) d a b X
unfolding Means.divide_by
into-temp v u w d a b X e =
    same_values (λ r. two (λ t. cond t q (cond (eqb r 30) q (cond t z (X.reg r))) ≡ cond t q (cond (eqb r 30) q (X.reg r))) refl refl (eqb r 31)) (λ p. refl)
    ∙ ap (λ t. cond t (put 31 q (put 30 q X)) (stable_divide n m d X)) (sym e)
  where
    n : Value
    n = times v (R (scale u w))

    m : Value
    m = times (C u w) (R (scale u w))

    q : Value
    q = quotient n m

    z : Value
    z = (leave 31 (divide_leaves true n m) X).reg 31

into_other : (v w : Value) (d a b : ℕ) (X : Values) → eqb d 31 ≡ false
    → Means.divide_by Mode.Stable v w d a b X ≡ Means.divide_by Mode.Minding v w d a b X
unfolding Means.divide_by
into_other v (R u) d a b X e = refl
into_other v (C u w) d a b X e =
    ap (λ t. cond t (put 31 (quotient n m) (put 30 (quotient n m) X)) (stable_divide n m d X)) (sym e)
  where
    n : Value
    n = times v (R (scale u w))

    m : Value
    m = times (C u w) (R (scale u w))

module _ (k : List ℕ) (B : List Work) (s : State) (d a b : ℕ) (hd : d < 32) (ha : a < 32) (hb : b < 32) where
  minding-does : (t : Bool) → eqb d 31 ≡ t → (x : Bool) → is_real_reg s.real a ≡ x → is_real_reg s.real b ≡ false → (a < 30) × (b < 30)
      → Begins (c.minding_divide t x d a b s).after.consts k → Does k B (Means.divide Mode.Minding d a b) s (c.minding_divide t x d a b s)
  unfolding c.minding_divide then
  minding-does true e x ex ey r bk =
      recast_complex b hb ey (λ X u w f. subst (λ v. let Y = Means.divide_by Mode.Stable (X.reg a) v 30 a b X in put 31 (Y.reg 30) Y ≡ Means.divide_by Mode.Minding (X.reg a) v d a b X) f (into-temp (X.reg a) u w d a b X e))
      (join (stable-does k B s a b ha hb 30 (lit< tt) x ex ey r bk) (mov-does k B (c.stable_divide x 30 a b s).after 31 30 (lit< tt) (lit< tt)))
  minding-does false e x ex ey r bk =
      recast_complex b hb ey (λ X u w f. into_other (X.reg a) (X.reg b) d a b X e) (stable-does k B s a b ha hb d hd x ex ey r bk)

  -- ---- each mode

  pub divide-by-does : (m : Mode) (x y : Bool) → is_real_reg s.real a ≡ x → is_real_reg s.real b ≡ y
      → (is_stable m ≡ true → y ≡ false → (a < 30) × (b < 30)) → Begins (c.divide_by m x y d a b s).after.consts k
      → Does k B (Means.divide m d a b) s (c.divide_by m x y d a b s)
  unfolding c.divide_by emit divide_lines Means.divide_by quotient passes rename run name uni_word bin_word fused_word complex_words
  divide-by-does m true true ex ey g bk =
      by_both k B s.real _ (λ v w X. Means.divide_by m v w d a b X) (divide_lines true true d a b) a b ha hb true true ex ey
      (λ X σ h. only-d k d a b hd X s.real σ h (divide_lines true true 0 1 2) (divide_lines true true d a b) true tt refl _ refl)
  divide-by-does m false true ex ey g bk =
      by_both k B s.real _ (λ v w X. Means.divide_by m v w d a b X) (divide_lines false true d a b) a b ha hb false true ex ey
      (λ X σ h. only-d k d a b hd X s.real σ h (divide_lines false true 0 1 2) (divide_lines false true d a b) false tt refl _ refl)
  divide-by-does Mode.Plain true false ex ey g bk = mixed-does k B s.real d hd a b ha hb ex ey
  divide-by-does Mode.Plain false false ex ey g bk =
      by_both k B s.real _ (λ v w X. Means.divide_by Mode.Plain v w d a b X) (divide_lines false false d a b) a b ha hb false false ex ey
      (λ X σ h. only-d k d a b hd X s.real σ h (divide_lines false false 0 1 2) (divide_lines false false d a b) false tt refl _ refl)
  divide-by-does Mode.Stable x false ex ey g bk = stable-does k B s a b ha hb d hd x ex ey (g refl refl) bk
  divide-by-does Mode.Minding x false ex ey g bk = minding-does (eqb d 31) refl x ex ey (g refl refl) bk
