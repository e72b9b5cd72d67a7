-- A tidy instruction means its row.
use Prim.Native.Nat.{ℕ, ◌<◌}
use mathlib.Core.Path.{◌≡◌, refl, sym, ap, ap₂, ◌∙◌, subst}
use mathlib.Core.Bool.{Bool, true, false, cond, true≢false}
use mathlib.Core.Logic.{◌≢◌}
use mathlib.Core.List.{List}
use native.Mathlib.Omega.{arith}
use native.Mathlib.Decide.{ℕ_discrete}
use lib.ListN.{get_or}
use lib.Dec.{eqb}
use borrow.Author.Tests.{ne_eqb}
use Rattle.mir.specs.declared.ops.UniOp.{UniOp}
use Rattle.mir.specs.declared.ops.BinOp.{BinOp}
use Rattle.mir.specs.declared.ops.ArithOp.{ArithOp}
use Rattle.mir.specs.declared.records.Loc.{Loc}
use Rattle.mir.specs.declared.records.Instruction.{Instruction}
use Rattle.sheet.specs.declared.setup.Mode.{Mode}
use Rattle.sheet.specs.Setup.{is_stable, is_minding}
use Rattle.float.specs.Word as Word
use Rattle.player_machine.specs.Machine.{place}
use Rattle.meaning.specs.Value.{Value, R, C, isR, re_of, im_of, wide, each, plus, minus, times, fused_squares, over, quotient, quotient_in, chosen, fused, scale}
use Rattle.meaning.specs.Value.{of_one, of_two}
use Rattle.meaning.specs.Means as Means
use Rattle.meaning.specs.Means.{Values, put, put_place, widen, uni_widens, bin_widens, uni_row, bin_row, as_bin, row, means, halved, zeroed, leave, leave_real, abs_leaves, recip_leaves, root_leaves, real_root_leaves, divide_leaves, stable_divide}
use Rattle.meaning.proofs.Leaf.{put_here, put_other}

-- the same in general registers and in the places of P
pub record Same (P : Loc → Type 0) (X Y : Values) : Type 0 where
  pub regs : (r : ℕ) → r < 30 → X.reg r ≡ Y.reg r
  pub places : (p : Loc) → P p → X.place p ≡ Y.place p

-- Root and RealRoot are there only where Stack 2 is not in P
abbrev pub RootsOut : (Loc → Type 0) → UniOp → Type 0
RootsOut P op = (op ≡ UniOp.Root → P (Loc.Stack 2) → ⊥) × (op ≡ UniOp.RealRoot → P (Loc.Stack 2) → ⊥)

-- an instruction is tidy where the values are X
abbrev pub TidyAt : Mode → (Loc → Type 0) → Instruction → Values → Type 0
TidyAt m P Instruction.Nop X = Unit {0}
TidyAt m P (Instruction.Uni op d a) X = (d < 30) × (a < 30) × RootsOut P op × (is_minding m ≡ false → op ≡ UniOp.Half → isR (X.reg d) ≡ isR (X.reg a))
TidyAt m P (Instruction.Bi op d a b) X = (d < 30) × (a < 30) × (b < 30)
TidyAt m P (Instruction.Mov d a) X = (d < 30) × (a < 30)
TidyAt m P (Instruction.Load d p) X = (d < 30) × P p
TidyAt m P (Instruction.Save a p) X = (a < 30) × P p
TidyAt m P (Instruction.LoadConst d idx) X = d < 30
TidyAt m P (Instruction.Fused op d a b c) X = (d < 30) × (a < 30) × (b < 30) × (c < 30)
TidyAt m P (Instruction.IfElse d a b p) X = (d < 30) × (a < 30) × (b < 30) × P p
TidyAt m P (Instruction.LoadMath op d a p) X =
    (d < 30) × (a < 30) × P p × (m ≡ Mode.Plain → op ≡ ArithOp.Divide → isR (X.reg a) ≡ true → isR (X.place p) ≡ true)
TidyAt m P (Instruction.LoadConstMath op d a idx) X = (d < 30) × (a < 30)
TidyAt m P (Instruction.Label l) X = Unit {0}
TidyAt m P (Instruction.Branch l) X = Unit {0}
TidyAt m P (Instruction.BranchIf c l e) X = c < 30

module _ (P : Loc → Type 0) where
  alike : (X : Values) → Same P X X
  alike X = record { regs = λ r h. refl; places = λ p h. refl }

  pub then_same : {X Y Z : Values} → Same P X Y → Same P Y Z → Same P X Z
  then_same p q = record { regs = λ r h. p.regs r h ∙ q.regs r h; places = λ l h. p.places l h ∙ q.places l h }

  same-put : {X Y : Values} (d : ℕ) {v w : Value} → v ≡ w → Same P X Y → Same P (put d v X) (put d w Y)
  same-put d {v} {w} e s = record {
    regs = λ r h. λ i. cond (eqb r d) (e i) (s.regs r h i);
    places = s.places;
  }

  -- Temp and Ret do not count
  out : (X : Values) (e : ℕ) (v : Value) → ((r : ℕ) → r < 30 → r ≢ e) → Same P (put e v X) X
  out X e v n = record { regs = λ r h. put_other X e v r (n r h); places = λ p h. refl }

  temp-out : (X : Values) (v : Value) → Same P (put 31 v X) X
  temp-out X v = out X 31 v (λ r h. omega arith)

  ret-out : (X : Values) (v : Value) → Same P (put 30 v X) X
  ret-out X v = out X 30 v (λ r h. omega arith)

  -- ---- Divide

  module _ (X : Values) (d a b : ℕ) (hd : d < 30) (ha : a < 30) where
    scaled : (n e : Value) → Same P (stable_divide n e d X) (put d (quotient n e) X)
    scaled n e =
        subst (λ q. Same P (cond q (put 31 (Means.into_temp n e) X) (put d (quotient n e) (leave 31 (divide_leaves (eqb d 30) n e) X))) (put d (quotient n e) X))
        (sym (ne_eqb d 31 (omega arith))) (same-put d refl (temp-out X _))

    minding : (n e : Value) → Same P (Means.minding_divide n e d X) (put d (quotient n e) X)
    minding n e =
        subst (λ q. Same P (cond q (put 31 (quotient n e) (put 30 (quotient n e) X)) (stable_divide n e d X)) (put d (quotient n e) X))
        (sym (ne_eqb d 31 (omega arith))) (scaled n e)

    -- what a Divide reads in a and b are v and w; b may be Temp
    divided : (m : Mode) (v w : Value) → (m ≡ Mode.Plain → isR v ≡ true → isR w ≡ false → (X.reg a ≡ v) × (X.reg b ≡ w) × (b < 30))
        → Same P (Means.divide_by m v w d a b X) (put d (quotient_in (is_stable m) v w) X)
    unfolding Means.divide_by quotient_in quotient re_of
    divided m v (R u) h = alike _
    divided Mode.Plain (C x y) (C u v) h = alike _
    divided Mode.Plain (R x) (C u v) h =
        let t = h refl refl refl in
        let X' = leave_real 31 (fused_squares u v) X in
        let nb : b < 30 = t.2 in
        let pa : re_of (X'.reg a) ≡ x = ap re_of (put_other X 31 _ a (omega arith) ∙ t.0) in
        let pb : re_of (X'.reg b) ≡ u = ap re_of (put_other X 31 _ b (omega arith) ∙ t.1) in
        same-put d (λ i. over (Word.times (pa i) (pb i)) (Word.neg (Word.times (pa i) v)) (fused_squares u v)) (temp-out X _)
    divided Mode.Stable v (C u w) h = scaled _ _
    divided Mode.Minding v (C u w) h = minding (times v (R (scale u w))) (times (C u w) (R (scale u w)))

  -- ---- one operand

  module _ (X : Values) (d a : ℕ) (hd : d < 30) (ha : a < 30) where
    abs-out : (m : Bool) (v : Value) → Same P (abs_leaves m v X) X
    unfolding abs_leaves
    abs-out m (R x) = alike _
    abs-out false (C x y) = alike _
    abs-out true (C x y) = ret-out X _

    recip-out : (m : Bool) (v : Value) → Same P (recip_leaves m v X) X
    unfolding recip_leaves
    recip-out m (R x) = alike _
    recip-out false (C x y) = alike _
    recip-out true (C x y) = temp-out X _

    two_out : (v : Value) → (P (Loc.Stack 2) → ⊥) → (Y : Values) → Same P (put_place (Loc.Stack 2) v Y) Y
    two_out v n Y = record { regs = λ r h. refl; places = λ p h. ap (λ q. cond q v (Y.place p)) (other p h) }
      where
        other : (p : Loc) → P p → eqb (place p) 70 ≡ false
        other (Loc.Stack i) h = ne_eqb (place (Loc.Stack i)) 70 (λ e. n (subst (λ i. P (Loc.Stack i)) (two_is i e) h))
          where
            two_is : (i : ℕ) → place (Loc.Stack i) ≡ 70 → i ≡ 2
            two_is i e = omega arith
        other (Loc.Mem i) h = ne_eqb (place (Loc.Mem i)) 70 (omega arith)
        other (Loc.Param i) h = ne_eqb (place (Loc.Param i)) 70 (omega arith)

    root-out : (m : Bool) (v : Value) (Y : Values) → (P (Loc.Stack 2) → ⊥) → Same P (root_leaves m v Y) Y
    root-out m v Y n = then_same (ret-out _ _) (then_same (temp-out _ _) (two_out _ n Y))

    -- of a complex value it is wide already
    wide-same : (x y : ℕ) → X.reg a ≡ C x y → Same P (widen a X) X
    unfolding re_of im_of
    wide-same x y e = record { regs = λ r h. go r (ℕ_discrete r a); places = λ p h. refl }
      where
        go : (r : ℕ) → Dec (r ≡ a) → (widen a X).reg r ≡ X.reg r
        go r (yes q) = put_here X a (wide (X.reg a)) r q ∙ ap wide e ∙ sym (ap X.reg q ∙ e)
        go r (no q) = put_other X a (wide (X.reg a)) r q

    real-root-out : (m : Bool) → (P (Loc.Stack 2) → ⊥) → (v : Value) → X.reg a ≡ v → Same P (real_root_leaves m v a X) X
    unfolding real_root_leaves
    real-root-out m n (R x) e = alike _
    real-root-out m n (C x y) e = then_same (root-out m (C x y) (widen a X) n) (wide-same x y e)

    zero_row : (op : UniOp) (m : Mode)
        → Same P (put d (of_one m op ((zeroed X).reg a)) (widen a (zeroed X))) (put d (of_one m op (X.reg a)) (widen a X))
    zero_row op m =
        let e : (zeroed X).reg a ≡ X.reg a = put_other X 31 (C 0 0) a (omega arith) in
        same-put d (ap (of_one m op) e) (same-put a (ap wide e) (temp-out X (C 0 0)))

    half-row : (h : ℕ) (z v : Value) → isR z ≡ isR v → halved h z v ≡ each Word.half v
    unfolding halved each re_of
    half-row h (R z) (R x) e = refl
    half-row h (C z z') (C x y) e = refl
    half-row h (R z) (C x y) e = absurd (true≢false e)
    half-row h (C z z') (R x) e = absurd (true≢false (sym e))

    -- in mode 2 it is its row
    half-by : (q : Bool) (h : ℕ) → (q ≡ false → isR (X.reg d) ≡ isR (X.reg a))
        → Same P (cond q (put d (each Word.half (X.reg a)) X) (put d (halved h (X.reg d) (X.reg a)) X)) (put d (each Word.half (X.reg a)) X)
    half-by true h t = alike _
    half-by false h t = same-put d (half-row h (X.reg d) (X.reg a) (t refl)) (alike X)

    uni-row : (m : Mode) (h : ℕ) (op : UniOp) → RootsOut P op → (is_minding m ≡ false → op ≡ UniOp.Half → isR (X.reg d) ≡ isR (X.reg a))
        → Same P (Means.uni m h op d a X) (uni_row m op d a X)
    unfolding Means.uni of_one
    uni-row m h UniOp.Neg n t = alike _
    uni-row m h UniOp.Not n t = alike _
    uni-row m h UniOp.Abs n t = same-put d refl (abs-out (is_stable m) (X.reg a))
    uni-row m h UniOp.Root n t = same-put d refl (root-out (is_stable m) (X.reg a) (widen a X) (n.0 refl))
    uni-row m h UniOp.RealRoot n t = same-put d refl (real-root-out (is_stable m) (n.1 refl) (X.reg a) refl)
    uni-row m h UniOp.Recip n t = same-put d refl (recip-out (is_stable m) (X.reg a))
    uni-row m h UniOp.Round n t = alike _
    uni-row m h UniOp.Floor n t = alike _
    uni-row m h UniOp.Ceiling n t = alike _
    uni-row m h UniOp.Trunc n t = alike _
    uni-row m h UniOp.Real n t = alike _
    uni-row m h UniOp.Imaginary n t = alike _
    uni-row m h UniOp.Conjugate n t = alike _
    uni-row m h UniOp.Half n t = half-by (is_minding m) h (λ q. t q refl)
    uni-row m h UniOp.IsZero n t = zero_row UniOp.IsZero m
    uni-row m h UniOp.IsNotZero n t = zero_row UniOp.IsNotZero m
    uni-row m h UniOp.Sign n t = alike _
    uni-row m h UniOp.Abs2 n t = alike _
    uni-row m h UniOp.TimesI n t = alike _
    uni-row m h UniOp.TimesNegI n t = alike _

  -- ---- two operands

  module _ (X : Values) (d a b : ℕ) (hd : d < 30) (ha : a < 30) (hb : b < 30) where
    bin-row : (m : Mode) (op : BinOp) → Same P (Means.bin m op d a b X) (bin_row m op d a b X)
    unfolding of_two
    bin-row m BinOp.Plus = alike _
    bin-row m BinOp.Minus = alike _
    bin-row m BinOp.Times = alike _
    bin-row m BinOp.Divide = divided X d a b hd ha m (X.reg a) (X.reg b) (λ p q r. (refl, refl, hb))
    bin-row m BinOp.GreaterThan = alike _
    bin-row m BinOp.GreaterThanEqual = alike _
    bin-row m BinOp.LittleThan = alike _
    bin-row m BinOp.LittleThanEqual = alike _
    bin-row m BinOp.Equal = alike _
    bin-row m BinOp.NotEqual = alike _
    bin-row m BinOp.And = alike _
    bin-row m BinOp.AndNot = alike _
    bin-row m BinOp.Or = alike _
    bin-row m BinOp.Xor = alike _
    bin-row m BinOp.Complex = alike _

  -- LoadMath, LoadConstMath: w goes to Temp first
  arith-row : (X : Values) (m : Mode) (op : ArithOp) (d a : ℕ) (w : Value) → d < 30 → a < 30
      → (m ≡ Mode.Plain → op ≡ ArithOp.Divide → isR (X.reg a) ≡ true → isR w ≡ true)
      → Same P (Means.bin m (as_bin op) d a 31 (put 31 w X)) (put d (of_two m (as_bin op) (X.reg a) w) X)
  unfolding of_two
  arith-row X m ArithOp.Plus d a w hd ha t = same-put d (ap (λ v. plus v w) (put_other X 31 w a (omega arith))) (temp-out X w)
  arith-row X m ArithOp.Minus d a w hd ha t = same-put d (ap (λ v. minus v w) (put_other X 31 w a (omega arith))) (temp-out X w)
  arith-row X m ArithOp.Times d a w hd ha t = same-put d (ap (λ v. times v w) (put_other X 31 w a (omega arith))) (temp-out X w)
  arith-row X m ArithOp.Divide d a w hd ha t =
      let e : (put 31 w X).reg a ≡ X.reg a = put_other X 31 w a (omega arith) in
      then_same
      (divided (put 31 w X) d a 31 hd ha m ((put 31 w X).reg a) w (λ p q r. absurd (true≢false (sym (t p refl (ap isR (sym e) ∙ q)) ∙ r))))
      (same-put d (ap (λ v. quotient_in (is_stable m) v w) e) (temp-out X w))

  -- one instruction
  pub tidy-step : (m : Mode) (k : List ℕ) (h : ℕ) (i : Instruction) (X : Values) → TidyAt m P i X → Same P (means m k h i X) (row m k i X)
  unfolding means row
  tidy-step m k h Instruction.Nop X t = alike _
  tidy-step m k h (Instruction.Uni op d a) X t = uni-row X d a t.0 t.1 m h op t.2 t.3
  tidy-step m k h (Instruction.Bi op d a b) X t = bin-row X d a b t.0 t.1 t.2 m op
  tidy-step m k h (Instruction.Mov d a) X t = alike _
  tidy-step m k h (Instruction.Load d p) X t = alike _
  tidy-step m k h (Instruction.Save a p) X t = alike _
  tidy-step m k h (Instruction.LoadConst d idx) X t = alike _
  tidy-step m k h (Instruction.Fused op d a b c) X t =
      same-put d refl (ret-out X _)
  tidy-step m k h (Instruction.IfElse d a b p) X t = alike _
  tidy-step m k h (Instruction.LoadMath op d a p) X t = arith-row X m op d a (X.place p) t.0 t.1 t.3
  tidy-step m k h (Instruction.LoadConstMath op d a idx) X t = arith-row X m op d a (R (get_or k idx 0)) t.0 t.1 (λ p q r. refl)
  tidy-step m k h (Instruction.Label l) X t = alike _
  tidy-step m k h (Instruction.Branch l) X t = alike _
  tidy-step m k h (Instruction.BranchIf c l e) X t = alike _

  -- ---- rows keep what is the same

  same-widen : {X Y : Values} (a : ℕ) → a < 30 → Same P X Y → Same P (widen a X) (widen a Y)
  same-widen a ha s = same-put a (ap wide (s.regs a ha)) s

  same_place : {X Y : Values} (p : Loc) {v w : Value} → v ≡ w → Same P X Y → Same P (put_place p v X) (put_place p w Y)
  same_place p e s = record { regs = s.regs; places = λ q h. λ i. cond (eqb (place q) (place p)) (e i) (s.places q h i) }

  same_cond : (q : Bool) {X Y X' Y' : Values} → Same P X' Y' → Same P X Y → Same P (cond q X' X) (cond q Y' Y)
  same_cond true w s = w
  same_cond false w s = s

  pub row_same : (m : Mode) (k : List ℕ) (i : Instruction) (X Y : Values) → TidyAt m P i X → Same P X Y → Same P (row m k i X) (row m k i Y)
  unfolding row
  row_same m k Instruction.Nop X Y t s = s
  row_same m k (Instruction.Uni op d a) X Y t s = same-put d (ap (of_one m op) (s.regs a t.1)) (same_cond (uni_widens op) (same-widen a t.1 s) s)
  row_same m k (Instruction.Bi op d a b) X Y t s = same-put d (ap₂ (of_two m op) (s.regs a t.1) (s.regs b t.2)) (same_cond (bin_widens op) (same-widen b t.2 (same-widen a t.1 s)) s)
  row_same m k (Instruction.Mov d a) X Y t s = same-put d (s.regs a t.1) s
  row_same m k (Instruction.Load d p) X Y t s = same-put d (s.places p t.1) s
  row_same m k (Instruction.Save a p) X Y t s = same_place p (ap wide (s.regs a t.0)) (same-widen a t.0 s)
  row_same m k (Instruction.LoadConst d idx) X Y t s = same-put d refl s
  row_same m k (Instruction.Fused op d a b c) X Y t s =
      same-put d (ap₂ (fused op) (ap₂ times (s.regs a t.1) (s.regs b t.2)) (s.regs c t.3)) s
  row_same m k (Instruction.IfElse d a b p) X Y t s =
      same-put d (λ i. chosen (re_of (s.places p t.3 i)) (s.regs a t.1 i) (s.regs b t.2 i)) (same-widen b t.2 (same-widen a t.1 s))
  row_same m k (Instruction.LoadMath op d a p) X Y t s = same-put d (ap₂ (of_two m (as_bin op)) (s.regs a t.1) (s.places p t.2)) s
  row_same m k (Instruction.LoadConstMath op d a idx) X Y t s = same-put d (ap (λ v. of_two m (as_bin op) v (R (get_or k idx 0))) (s.regs a t.1)) s
  row_same m k (Instruction.Label l) X Y t s = s
  row_same m k (Instruction.Branch l) X Y t s = s
  row_same m k (Instruction.BranchIf c l e) X Y t s = s
