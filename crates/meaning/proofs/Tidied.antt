-- Playing a tidy sheet's listing computes its rows.
use Prim.Native.Nat.{ℕ, zero, suc, ◌<◌}
use mathlib.Core.Path.{◌≡◌, refl, sym, ap, ◌∙◌, subst}
use mathlib.Core.Bool.{Bool, true, false, not, cond, ◌&&◌, ◌||◌, true≢false}
use mathlib.Core.List.{List, [], ◌∷◌}
use mathlib.Core.Option.{Option, none, some}
use native.Mathlib.Omega.{arith}
use lib.ListN.{length, get_or}
use lib.Dec.{T, ltb, ltb→lt}
use borrow.Author.Tests.{ltb-true, not-false}
use Rattle.mir.proofs.Tables.{and_left, and_right}
use Rattle.mir.specs.declared.ops.UniOp.{UniOp}
use Rattle.mir.specs.declared.ops.ArithOp.{ArithOp}
use Rattle.mir.specs.declared.records.Loc.{Loc}
use Rattle.mir.specs.declared.records.Instruction.{Instruction}
use Rattle.sheet.specs.declared.setup.Mode.{Mode}
use Rattle.mir.specs.Operation.{uni_number}
use Rattle.mir.specs.Takes.{one_of}
use Rattle.sheet.specs.Setup.{is_stable}
use Rattle.sheet.proofs.Ranges.{InRange}
use Rattle.player_machine.specs.Machine.{Store, branches, Way, going, seeking}
use Rattle.lowering.specs.declared.realness.Realness.{Realness}
use Rattle.lowering.specs.Realness.{is_real_reg, is_real_loc}
use Rattle.lowering.specs.Lower.{is_divide, by_first}
use Rattle.leftovers.specs.Leftovers.{Sheet, Lowered, real_at}
use Rattle.leftovers.proofs.Instructions.{AllIn}
use Rattle.leftovers.proofs.Sheets.{sound}
use Rattle.entries.specs.Entries.{left}
use Rattle.entries.proofs.Entered.{entered}
use Rattle.leftovers.proofs.Sought.{some_inj}
use Rattle.meaning.specs.Value.{Value, isR, re_of}
use Rattle.meaning.specs.Means.{Values, row, means, goes, is_label, walked, stands, stands_by_rows}
use Rattle.meaning.specs.Preserved.{value_of, values_of, Holds, Every, Preserves}
use Rattle.meaning.specs.Tidy.{special, stray, differ, tidiness, untidy, TidySheet, Counted, TidyPreserves, Tidied}
use Rattle.meaning.proofs.Tidying.{Same, RootsOut, TidyAt, tidy-step, row_same, then_same}
use Rattle.meaning.proofs.Branches.{none≢some}
use Rattle.meaning.proofs.Theorem.{preserved}

-- both stand, with values that are the same where they count, or neither does
data Shadow (P : Loc → Type 0) : Option Values → Option Values → Type 0 where
  neither : Shadow P none none
  both : {X Y : Values} → Same P X Y → Shadow P (some X) (some Y)

module _ (P : Loc → Type 0) (m : Mode) (k : List ℕ) where
  goes_same : (i : Instruction) (X Y : Values) → TidyAt m P i X → Same P X Y → goes i X ≡ goes i Y
  unfolding goes
  goes_same Instruction.Nop X Y t s = refl
  goes_same (Instruction.Uni op d a) X Y t s = refl
  goes_same (Instruction.Bi op d a b) X Y t s = refl
  goes_same (Instruction.Mov d a) X Y t s = refl
  goes_same (Instruction.Load d p) X Y t s = refl
  goes_same (Instruction.Save a p) X Y t s = refl
  goes_same (Instruction.LoadConst d i) X Y t s = refl
  goes_same (Instruction.Fused op d a b c) X Y t s = refl
  goes_same (Instruction.IfElse d a b p) X Y t s = refl
  goes_same (Instruction.LoadMath op d a p) X Y t s = refl
  goes_same (Instruction.LoadConstMath op d a i) X Y t s = refl
  goes_same (Instruction.Label l) X Y t s = refl
  goes_same (Instruction.Branch l) X Y t s = refl
  goes_same (Instruction.BranchIf c l e) X Y t s = ap (λ v. cond (branches e (re_of v)) (seeking l) going) (s.regs c t)

  chosen : (q : Bool) {X Y : Values} → Same P X Y → Shadow P (cond q (some X) none) (cond q (some Y) none)
  chosen true s = both s
  chosen false s = neither

  shadow : (is : List Instruction) (way : Way) (n : ℕ) (h : ℕ → ℕ) (X Y : Values) → Same P X Y
      → ((n : ℕ) (X' : Values) → n < length is → stands m k h way n is X ≡ some X' → TidyAt m P (get_or is n Instruction.Nop) X')
      → Shadow P (stands m k h way n is X) (stands_by_rows m k way n is Y)
  unfolding walked
  shadow [] going zero h X Y s t = both s
  shadow [] going (suc n) h X Y s t = neither
  shadow [] (seeking l) zero h X Y s t = neither
  shadow [] (seeking l) (suc n) h X Y s t = neither
  shadow (i ∷ is) going zero h X Y s t = both s
  shadow (i ∷ is) (seeking l) zero h X Y s t = chosen (is_label l i) s
  shadow (i ∷ is) going (suc n) h X Y s t =
      let q = t 0 X (omega arith) refl in
      subst (λ w. Shadow P (stands m k (λ j. h (suc j)) (goes i X) n is (means m k (h 0) i X)) (stands_by_rows m k w n is (row m k i Y))) (goes_same i X Y q s)
      (shadow is (goes i X) n (λ j. h (suc j)) (means m k (h 0) i X) (row m k i Y) (then_same P (tidy-step P m k (h 0) i X q) (row_same P m k i X Y q s))
      (λ n X' l e. t (suc n) X' (omega arith) e))
  shadow (i ∷ is) (seeking l) (suc n) h X Y s t =
      shadow is (cond (is_label l i) going (seeking l)) n (λ j. h (suc j)) X Y s (λ n X' l e. t (suc n) X' (omega arith) e)

  -- from the rows to the meaning, and back
  pub record Found (o : Option Values) (Y : Values) : Type 0 where
    pub values : Values
    pub is : o ≡ some values
    pub same : Same P values Y

  to-meaning : {o o' : Option Values} → Shadow P o o' → (Y : Values) → o' ≡ some Y → Found o Y
  to-meaning neither Y e = absurd (none≢some e)
  to-meaning (both {X} s) Y e = record { values = X; is = refl; same = subst (Same P X) (some_inj e) s }

  pub record Back (o : Option Values) (X : Values) : Type 0 where
    pub values : Values
    pub is : o ≡ some values
    pub same : Same P X values

  to-rows : {o o' : Option Values} → Shadow P o o' → (X : Values) → o ≡ some X → Back o' X
  to-rows neither X e = absurd (none≢some e)
  to-rows (both {Y = Y} s) X e = record { values = Y; is = refl; same = subst (λ X. Same P X Y) (some_inj e) s }

-- what is recorded is whether a value is real
pub is_real : (z : Bool) (x y : ℕ) (v : Value) → value_of z x y ≡ v → z ≡ isR v
is_real true x y v e = ap isR e
is_real false x y v e = ap isR e

-- an instruction of the sheet names registers, places and constants that there are
pub in_at : (count : ℕ) (is : List Instruction) → AllIn count is → (n : ℕ) → n < length is → InRange count (get_or is n Instruction.Nop)
in_at count [] v n l = absurd (omega arith)
in_at count (i ∷ is) v zero l = v.0
in_at count (i ∷ is) v (suc n) l = in_at count is v.1 n (omega arith)

-- ---- the tests, one by one

-- no test holds
abbrev NoneHolds : List (Bool × ℕ) → Type 0
NoneHolds [] = Unit {0}
NoneHolds (t ∷ ts) = (t.0 ≡ false) × NoneHolds ts

-- no number is 0
abbrev positive : List (Bool × ℕ) → Bool
positive [] = true
positive (t ∷ ts) = ltb 0 t.1 && positive ts

none_holds : (ts : List (Bool × ℕ)) → T (positive ts) → by_first ts (λ n. n) 0 ≡ 0 → NoneHolds ts
none_holds [] p e = tt
none_holds (t ∷ ts) p e =
    let q = go t.0 t.1 (ltb→lt 0 t.1 (and_left (ltb 0 t.1) (positive ts) p)) e in
    (q.0, none_holds ts (and_right (ltb 0 t.1) (positive ts) p) q.1)
  where
    go : (x : Bool) (n : ℕ) → 0 < n → cond x n (by_first ts (λ n. n) 0) ≡ 0 → (x ≡ false) × (by_first ts (λ n. n) 0 ≡ 0)
    go true n l e = absurd (omega arith)
    go false n l e = (refl, e)

abbrev General : List ℕ → Type 0
General [] = Unit {0}
General (r ∷ rs) = (r < 30) × General rs

general : (rs : List ℕ) → special rs ≡ false → General rs
general [] e = tt
general (r ∷ rs) e = let q = go (ltb r 30) refl e in (ltb-true r 30 q.0, general rs q.1)
  where
    go : (x : Bool) → ltb r 30 ≡ x → not x || special rs ≡ false → (ltb r 30 ≡ true) × (special rs ≡ false)
    go true f e = (f, e)
    go false f e = absurd (true≢false e)

roots_out : (roots : Bool) (op : UniOp) → stray roots op ≡ false → RootsOut (Counted roots) op
roots_out true op e = (λ q p. true≢false p.1, λ q p. true≢false p.1)
roots_out false op e = (λ q p. true≢false (subst (λ op. stray false op ≡ false) q e), λ q p. true≢false (subst (λ op. stray false op ≡ false) q e))

alike_by : (x y : Bool) → differ x y ≡ false → x ≡ y
alike_by true true e = refl
alike_by true false e = absurd (true≢false e)
alike_by false true e = absurd (true≢false e)
alike_by false false e = refl

by-real : (m : Mode) (op : ArithOp) (x y : Bool) → not (is_stable m) && (is_divide op && (x && not y)) ≡ false
    → m ≡ Mode.Plain → op ≡ ArithOp.Divide → x ≡ true → y ≡ true
by-real m op x y e f g h =
    not-false y (subst (λ x. x && not y ≡ false) h (subst (λ op. is_divide op && (x && not y) ≡ false) g (subst (λ m. not (is_stable m) && (is_divide op && (x && not y)) ≡ false) f e)))

unmixed : (op : UniOp) (x y : Bool) {q : Bool} → q ≡ false → op ≡ UniOp.Half → not q && (one_of uni_number op (UniOp.Half ∷ []) && differ x y) ≡ false
    → differ x y ≡ false
unmixed op x y q f e =
    subst (λ op. one_of uni_number op (UniOp.Half ∷ []) && differ x y ≡ false) f (subst (λ q. not q && (one_of uni_number op (UniOp.Half ∷ []) && differ x y) ≡ false) q e)

module _ (m : Mode) (roots : Bool) (count : ℕ) (X : Values) (ρ : Realness) (σ : Store) (h : Holds 32 Every X ρ σ) where
  real-reg : (r : ℕ) → r < 30 → is_real_reg ρ r ≡ isR (X.reg r)
  real-reg r l = is_real (is_real_reg ρ r) _ _ (X.reg r) (h.regs r (omega arith))

  tidy-as : (i : Instruction) → InRange count i → untidy m roots ρ i ≡ 0 → TidyAt m (Counted roots) i X
  unfolding tidiness
  tidy-as Instruction.Nop v e = tt
  tidy-as (Instruction.Uni op d a) v e =
      let t = none_holds (tidiness m roots ρ (Instruction.Uni op d a)) tt e in
      let g = general (d ∷ a ∷ []) t.0 in (
        g.0,
        g.1.0,
        roots_out roots op t.1.0,
        λ q f.
            sym (real-reg d g.0)
            ∙ alike_by (is_real_reg ρ d) (is_real_reg ρ a) (unmixed op (is_real_reg ρ d) (is_real_reg ρ a) q f t.1.1.0)
            ∙ real-reg a g.1.0,
      )
  tidy-as (Instruction.Bi op d a b) v e =
      let g = general (d ∷ a ∷ b ∷ []) (none_holds (tidiness m roots ρ (Instruction.Bi op d a b)) tt e).0 in
      (g.0, g.1.0, g.1.1.0)
  tidy-as (Instruction.Mov d a) v e =
      let g = general (d ∷ a ∷ []) (none_holds (tidiness m roots ρ (Instruction.Mov d a)) tt e).0 in
      (g.0, g.1.0)
  tidy-as (Instruction.Load d p) v e =
      let t = none_holds (tidiness m roots ρ (Instruction.Load d p)) tt e in
      ((general (d ∷ []) t.0).0, (v.1, t.1.0))
  tidy-as (Instruction.Save a p) v e =
      let t = none_holds (tidiness m roots ρ (Instruction.Save a p)) tt e in
      ((general (a ∷ []) t.0).0, (v.1, t.1.0))
  tidy-as (Instruction.LoadConst d i) v e = (general (d ∷ []) (none_holds (tidiness m roots ρ (Instruction.LoadConst d i)) tt e).0).0
  tidy-as (Instruction.Fused op d a b c) v e =
      let g = general (d ∷ a ∷ b ∷ c ∷ []) (none_holds (tidiness m roots ρ (Instruction.Fused op d a b c)) tt e).0 in
      (g.0, g.1.0, g.1.1.0, g.1.1.1.0)
  tidy-as (Instruction.IfElse d a b p) v e =
      let t = none_holds (tidiness m roots ρ (Instruction.IfElse d a b p)) tt e in
      let g = general (d ∷ a ∷ b ∷ []) t.0 in
      (g.0, g.1.0, g.1.1.0, (v.3, t.1.0))
  tidy-as (Instruction.LoadMath op d a p) v e =
      let t = none_holds (tidiness m roots ρ (Instruction.LoadMath op d a p)) tt e in
      let g = general (d ∷ a ∷ []) t.0 in (
        g.0,
        g.1.0,
        (v.2, t.1.0),
        λ f o k.
            sym (is_real (is_real_loc ρ.places p) _ _ (X.place p) (h.places p v.2))
            ∙ by-real m op (is_real_reg ρ a) (is_real_loc ρ.places p) t.1.1.0 f o (real-reg a g.1.0 ∙ k),
      )
  tidy-as (Instruction.LoadConstMath op d a i) v e =
      let g = general (d ∷ a ∷ []) (none_holds (tidiness m roots ρ (Instruction.LoadConstMath op d a i)) tt e).0 in
      (g.0, g.1.0)
  tidy-as (Instruction.Label l) v e = tt
  tidy-as (Instruction.Branch l) v e = tt
  tidy-as (Instruction.BranchIf c l q) v e = (general (c ∷ []) (none_holds (tidiness m roots ρ (Instruction.BranchIf c l q)) tt e).0).0

module _ (roots : Bool) where
  shown : {X Y : Values} {ρ : Realness} {σ : Store} → Holds 32 Every X ρ σ → Same (Counted roots) X Y → Holds 30 (Counted roots) Y ρ σ
  shown h s = record { regs = λ r l. h.regs r (omega arith) ∙ s.regs r l; places = λ p q. h.places p q.0 ∙ s.places p q }

  module _ (l : Lowered) (σ₀ : Store) (p : Preserves l σ₀) (count : ℕ) (v : AllIn count l.sheet.instructions) (t : TidySheet roots l.sheet) where
    s : Sheet
    s = l.sheet

    X₀ : Values
    X₀ = values_of (real_at l.sheet 0) σ₀

    at : (n : ℕ)
        → Shadow (Counted roots) (stands s.mode s.constants p.lost going n s.instructions X₀) (stands_by_rows s.mode s.constants going n s.instructions X₀)
    unfolding s X₀
    at n =
        shadow (Counted roots) s.mode s.constants s.instructions going n p.lost X₀ X₀ (record { regs = λ r h. refl; places = λ q h. refl })
        (λ n X' h e.
        let r = p.points n X' e in
        tidy-as s.mode roots count X' (real_at s n) r.store r.holds (get_or s.instructions n Instruction.Nop) (in_at count s.instructions v n h) (t n h))

    end : Back (Counted roots) s.mode s.constants (stands_by_rows s.mode s.constants going (length s.instructions) s.instructions X₀) p.last
    unfolding s X₀
    end = to-rows (Counted roots) s.mode s.constants (at (length s.instructions)) p.last p.ends

    tidy-preserves : TidyPreserves roots l σ₀
    unfolding s X₀
    tidy-preserves = record {
      points =
          λ j Y e. let f = to-meaning (Counted roots) s.mode s.constants (at j) Y e in
          let r = p.points j f.values f.is in
          record { store = r.store; reached = r.reached; holds = shown r.holds f.same };
      last = end.values;
      ends = end.is;
      ending = shown p.ending end.same;
    }

pub tidied : Tidied
tidied sheet listing constants origins σ₀ roots a h t =
    tidy-preserves roots (left sheet listing constants origins) σ₀ (preserved sheet listing constants origins σ₀ a h) _
    (sound sheet (length listing) (entered sheet listing constants origins a).accepted).in-range t
