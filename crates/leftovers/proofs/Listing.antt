-- Which block a Call of a listing finds: the one that the first Root listed.
use mathlib.Core.Path.{◌≡◌, refl, sym, ap, ◌∙◌, subst}
use mathlib.Core.Bool.{Bool, true, false, cond, true≢false}
use mathlib.Core.List.{List, [], ◌∷◌, ◌++◌, map, append_assoc, map-append}
use Prim.Native.Nat.{ℕ, ◌<◌}
use native.Mathlib.Omega.{arith}
use borrow.Author.Tests.{ne_eqb}
use lib.Dec.{eqb, ltb}
use Rattle.mir.specs.declared.ops.UniOp.{UniOp}
use Rattle.mir.specs.declared.ops.BinOp.{BinOp}
use Rattle.mir.specs.declared.ops.ArithOp.{ArithOp}
use Rattle.mir.specs.declared.ops.FusedOp.{FusedOp}
use Rattle.mir.specs.declared.records.Loc.{Loc}
use Rattle.mir.specs.declared.records.Work.{Work}
use Rattle.mir.specs.declared.records.Record.{Record}
use Rattle.mir.specs.declared.records.Instruction.{Instruction}
use Rattle.mir.specs.Register.{re}
use Rattle.player_machine.specs.Machine.{works, seek, is_label, block}
use Rattle.sheet.specs.declared.setup.Mode.{Mode}
use Rattle.sheet.specs.Setup.{is_stable, is_minding}
use Rattle.lowering.specs.Realness.{is_real_reg, is_real_loc}
use Rattle.lowering.specs.Lines.{ensure_lines, stable_divide_lines, stable_recip_lines, stable_abs_lines}
use Rattle.lowering.specs.Lines.{real_root_lines, fmov_lines, load_lines, save_lines, each_lines}
use Rattle.lowering.specs.Lines.{abs_lines, abs2_lines, timesILines, timesNegILines, recip_lines, half_lines, minding_half_lines}
use Rattle.lowering.specs.Lines.{plus_lines, minus_lines, times_lines, divide_lines}
use Rattle.lowering.specs.Lines.{real_lines, imaginary_lines, conjugate_lines, complex_lines, order_lines, compare_lines, bits_lines, not_lines, ifelse_lines}
use Rattle.lowering.specs.Complexifier as c
use Rattle.lowering.specs.Complexifier.{State, Out, then, unlisted, emit, one_by_one, by_two, with_three, promoted, copied, as_real, as_complex}
use Rattle.lowering.specs.Complexifier.{both_as_real, both_as_complex}
use Rattle.lowering.specs.Rerun.{compare_zero, rerun_uni, rerun_bin, rerun_fused, rerun_arith, rerun, complexify}
use Rattle.lowering.specs.Complexifier.{around_block, three_lines, with_real, saved_realness}
use Rattle.leftovers.proofs.Methods.{two}
use Rattle.sheet.proofs.Ranges.{InRange}
use Rattle.leftovers.proofs.Instructions.{AllIn, Works}
use Rattle.leftovers.proofs.Constants.{Stable, min-positive, infinity, quarter, mask, floor, Grown, same, grown_then, grown_three}
use Rattle.leftovers.proofs.Root.{Block, root_block_fine}

-- ---- what an instruction lists

-- What stands outside the block: records that work on words; labels and branches of the sheet's own, and Calls, where they may stand.
abbrev pub Outside : Bool → Bool → Record → Type 0
Outside own calls (Record.Work w) = Unit {0}
Outside true calls (Record.Label l) = 2 < l
Outside false calls (Record.Label l) = ⊥
Outside true calls (Record.Branch l) = 2 < l
Outside false calls (Record.Branch l) = ⊥
Outside own true (Record.Call l) = l ≡ 1
Outside own false (Record.Call l) = ⊥
Outside true calls (Record.BranchIf c l e) = 2 < l
Outside false calls (Record.BranchIf c l e) = ⊥

abbrev pub AllOutside : Bool → Bool → List Record → Type 0
AllOutside own calls [] = Unit {0}
AllOutside own calls (r ∷ rs) = Outside own calls r × AllOutside own calls rs

abbrev pub Plain : List Record → Type 0
Plain rs = AllOutside true true rs

pub outside_append : (own calls : Bool) (rs rs' : List Record) → AllOutside own calls rs → AllOutside own calls rs' → AllOutside own calls (rs ++ rs')
outside_append own calls [] rs' p q = q
outside_append own calls (r ∷ rs) rs' p q = (p.0, outside_append own calls rs rs' p.1 q)

pub plain_append : (rs rs' : List Record) → Plain rs → Plain rs' → Plain (rs ++ rs')
plain_append rs rs' p q = outside_append true true rs rs' p q

pub outside_works : (own calls : Bool) (l : List Work) → AllOutside own calls (map Record.Work l)
outside_works own calls [] = tt
outside_works own calls (w ∷ l) = (tt, outside_works own calls l)

pub plain_works : (l : List Work) → Plain (map Record.Work l)
plain_works l = outside_works true true l

-- where less may stand
plain_one : (own calls : Bool) (r : Record) → Outside own calls r → Outside true true r
plain_one own calls (Record.Work w) p = tt
plain_one true calls (Record.Label l) p = p
plain_one false calls (Record.Label l) p = absurd p
plain_one true calls (Record.Branch l) p = p
plain_one false calls (Record.Branch l) p = absurd p
plain_one own true (Record.Call l) p = p
plain_one own false (Record.Call l) p = absurd p
plain_one true calls (Record.BranchIf c l e) p = p
plain_one false calls (Record.BranchIf c l e) p = absurd p

pub plain : (own calls : Bool) (rs : List Record) → AllOutside own calls rs → Plain rs
plain own calls [] p = tt
plain own calls (r ∷ rs) p = (plain_one own calls r p.0, plain own calls rs p.1)

-- a method that only lists working records
pub record Quiet (s : State) (o : Out) : Type 0 where
  pub rooted : o.after.is_root_defined ≡ s.is_root_defined
  pub lines : List Work
  pub listed : o.records ≡ map Record.Work lines
  pub grown : Grown s.consts o.after.consts

pub quiet_outside : (own calls : Bool) {s : State} {o : Out} → Quiet s o → AllOutside own calls o.records
quiet_outside own calls q = rw q.listed (outside_works own calls q.lines)

pub quiet_plain : {s : State} {o : Out} → Quiet s o → Plain o.records
quiet_plain q = quiet_outside true true q

quiet_then : (s : State) (o : Out) (f : State → Out) → Quiet s o → Quiet o.after (f o.after) → Quiet s (then o f)
unfolding then
quiet_then s o f p q = record {
  rooted = q.rooted ∙ p.rooted;
  lines = p.lines ++ q.lines;
  listed = rw (p.listed, q.listed) (sym (map-append Record.Work p.lines q.lines));
  grown = grown_then p.grown q.grown;
}

quiet_none : (s : State) → Quiet s (unlisted s)
unfolding unlisted
quiet_none s = record { rooted = refl; lines = []; listed = refl; grown = same }

quiet_ensure : (a : ℕ) (s : State) → Quiet s (c.ensure_complex a s)
unfolding c.ensure_complex
quiet_ensure a s = record { rooted = refl; lines = ensure_lines (is_real_reg s.real a) a; listed = refl; grown = same }

quiet_fmov : (d a : ℕ) (s : State) → Quiet s (c.fmov d a s)
unfolding c.fmov one_by_one
quiet_fmov d a s = record { rooted = refl; lines = fmov_lines (is_real_reg s.real a) d a; listed = refl; grown = same }

quiet_by₁ : (L : Bool → ℕ → ℕ → List Work) (g : Bool → Bool) (d a : ℕ) (s : State) → Quiet s (one_by_one L g d a s)
unfolding one_by_one
quiet_by₁ L g d a s = record { rooted = refl; lines = L (is_real_reg s.real a) d a; listed = refl; grown = same }

quiet_by₂ : (L : Bool → Bool → ℕ → ℕ → ℕ → List Work) (g : Bool → Bool → Bool) (d a b : ℕ) (s : State) → Quiet s (by_two L g d a b s)
unfolding by_two
quiet_by₂ L g d a b s =
    record { rooted = refl; lines = L (is_real_reg s.real a) (is_real_reg s.real b) d a b; listed = refl; grown = same }

quiet_three : {u v w : ℕ} → Stable u → Stable v → Stable w → (L : ℕ → ℕ → ℕ → List Work) (d : ℕ) (s : State)
    → Quiet s (with_three u v w L d s)
unfolding with_three
quiet_three {u} {v} {w} a b c L d s =
    record { rooted = refl; lines = three_lines u v w L s.consts; listed = refl; grown = grown_three a b c }

quiet_load : (d : ℕ) (p : Loc) (s : State) → Quiet s (c.load_from d p s)
unfolding c.load_from
quiet_load d p s = record { rooted = refl; lines = load_lines (is_real_loc s.real.places p) d p; listed = refl; grown = same }

quiet_load_const : (d i : ℕ) (s : State) → Quiet s (c.load_const d i s)
unfolding c.load_const
quiet_load_const d i s = record { rooted = refl; lines = Work.LoadConst (re d) i ∷ []; listed = refl; grown = same }

quiet_abs : (m x : Bool) (d a : ℕ) (s : State) → Quiet s (c.abs_by m x d a s)
unfolding c.abs_by
quiet_abs m true d a s = record { rooted = refl; lines = abs_lines true d a; listed = refl; grown = same }
quiet_abs true false d a s = quiet_three floor mask infinity (stable_abs_lines d a) d s
quiet_abs false false d a s = record { rooted = refl; lines = abs_lines false d a; listed = refl; grown = same }

quiet_recip : (m x : Bool) (d a : ℕ) (s : State) → Quiet s (c.recip_by m x d a s)
unfolding c.recip_by
quiet_recip m true d a s = record { rooted = refl; lines = recip_lines true d a; listed = refl; grown = same }
quiet_recip true false d a s = quiet_three min-positive infinity quarter (stable_recip_lines d a) d s
quiet_recip false false d a s = record { rooted = refl; lines = recip_lines false d a; listed = refl; grown = same }

quiet_minding : (t x : Bool) (d a b : ℕ) (s : State) → Quiet s (c.minding_divide t x d a b s)
unfolding c.minding_divide c.stable_divide
quiet_minding true x d a b s =
    quiet_then s _ (c.fmov 31 30) (quiet_three min-positive infinity quarter (stable_divide_lines false x 30 a b) 30 s) (quiet_fmov 31 30 _)
quiet_minding false x d a b s = quiet_three min-positive infinity quarter (stable_divide_lines (ltb d 30) x d a b) d s

quiet_divide : (m : Mode) (x y : Bool) (d a b : ℕ) (s : State) → Quiet s (c.divide_by m x y d a b s)
unfolding c.divide_by
quiet_divide m x true d a b s = record { rooted = refl; lines = divide_lines x true d a b; listed = refl; grown = same }
quiet_divide Mode.Minding x false d a b s = quiet_minding (eqb d 31) x d a b s
quiet_divide Mode.Stable x false d a b s = quiet_three min-positive infinity quarter (stable_divide_lines (ltb d 30) x d a b) d s
quiet_divide Mode.Plain x false d a b s = record { rooted = refl; lines = divide_lines x false d a b; listed = refl; grown = same }

quiet_arith : (m : Mode) (op : ArithOp) (d a b : ℕ) (s : State) → Quiet s (rerun_arith m op d a b s)
unfolding rerun_arith c.plus c.minus c.times c.divide
quiet_arith m ArithOp.Plus d a b s = quiet_by₂ plus_lines promoted d a b s
quiet_arith m ArithOp.Minus d a b s = quiet_by₂ minus_lines promoted d a b s
quiet_arith m ArithOp.Times d a b s = quiet_by₂ times_lines promoted d a b s
quiet_arith m ArithOp.Divide d a b s = quiet_divide m (is_real_reg s.real a) (is_real_reg s.real b) d a b s

quiet_compare : (op join : BinOp) (d a b : ℕ) (s : State) → Quiet s (c.compare op join d a b s)
unfolding c.compare
quiet_compare op join d a b s =
    quiet_then s _ (λ s. emit s (compare_lines op join d a b) d true)
    (quiet_then s _ (c.ensure_complex b) (quiet_ensure a s) (quiet_ensure b _))
    (record { rooted = refl; lines = compare_lines op join d a b; listed = refl; grown = same })

quiet_compare-zero : (op join : BinOp) (d a : ℕ) (s : State) → Quiet s (compare_zero op join d a s)
unfolding c.bits
quiet_compare-zero op join d a s =
    quiet_then s _ (c.compare op join d a 31) (quiet_by₂ (bits_lines BinOp.Xor) promoted 31 31 31 s) (quiet_compare op join d a 31 _)

quiet_ifelse : (d a b : ℕ) (p : Loc) (s : State) → Quiet s (c.ifelse d a b p s)
unfolding c.ifelse
quiet_ifelse d a b p s =
    quiet_then s _ (λ s. emit s (ifelse_lines d a b p) d false)
    (quiet_then s _ (c.ensure_complex b) (quiet_ensure a s) (quiet_ensure b _))
    (record { rooted = refl; lines = ifelse_lines d a b p; listed = refl; grown = same })

quiet_save : (a : ℕ) (p : Loc) (s : State) → Quiet s (c.save_to a p s)
unfolding c.save_to
quiet_save a p s =
    quiet_then s _ (λ s. record {
      records =
          map Record.Work (save_lines a p);
      after = with_real s (saved_realness p s.real);
    }) (quiet_ensure a s) (record { rooted = refl; lines = save_lines a p; listed = refl; grown = same })

quiet_bin : (m : Mode) (op : BinOp) (d a b : ℕ) (s : State) → Quiet s (rerun_bin m op d a b s)
unfolding rerun_bin c.plus c.minus c.times c.divide c.bits
quiet_bin m BinOp.Plus d a b s = quiet_by₂ plus_lines promoted d a b s
quiet_bin m BinOp.Minus d a b s = quiet_by₂ minus_lines promoted d a b s
quiet_bin m BinOp.Times d a b s = quiet_by₂ times_lines promoted d a b s
quiet_bin m BinOp.Divide d a b s = quiet_divide m (is_real_reg s.real a) (is_real_reg s.real b) d a b s
quiet_bin m BinOp.GreaterThan d a b s = quiet_by₂ (order_lines BinOp.GreaterThan) both_as_real d a b s
quiet_bin m BinOp.GreaterThanEqual d a b s = quiet_by₂ (order_lines BinOp.GreaterThanEqual) both_as_real d a b s
quiet_bin m BinOp.LittleThan d a b s = quiet_by₂ (order_lines BinOp.LittleThan) both_as_real d a b s
quiet_bin m BinOp.LittleThanEqual d a b s = quiet_by₂ (order_lines BinOp.LittleThanEqual) both_as_real d a b s
quiet_bin m BinOp.Equal d a b s = quiet_compare BinOp.Equal BinOp.And d a b s
quiet_bin m BinOp.NotEqual d a b s = quiet_compare BinOp.NotEqual BinOp.Or d a b s
quiet_bin m BinOp.And d a b s = quiet_by₂ (bits_lines BinOp.And) promoted d a b s
quiet_bin m BinOp.AndNot d a b s = quiet_none s
quiet_bin m BinOp.Or d a b s = quiet_by₂ (bits_lines BinOp.Or) promoted d a b s
quiet_bin m BinOp.Xor d a b s = quiet_by₂ (bits_lines BinOp.Xor) promoted d a b s
quiet_bin m BinOp.Complex d a b s = quiet_by₂ complex_lines both_as_complex d a b s

quiet_fused : (op : FusedOp) (d a b e : ℕ) (s : State) → Quiet s (rerun_fused op d a b e s)
unfolding rerun_fused c.fused_mul_add c.fused_mul_sub c.fused_neg_mul_add c.fused_neg_mul_sub c.times c.plus c.minus
quiet_fused FusedOp.MulAdd d a b e s =
    quiet_then s _ (c.plus d 30 e) (quiet_by₂ times_lines promoted 30 a b s) (quiet_by₂ plus_lines promoted d 30 e _)
quiet_fused FusedOp.MulSub d a b e s =
    quiet_then s _ (c.minus d 30 e) (quiet_by₂ times_lines promoted 30 a b s) (quiet_by₂ minus_lines promoted d 30 e _)
quiet_fused FusedOp.NegMulAdd d a b e s =
    quiet_then s _ (c.minus d e 30) (quiet_by₂ times_lines promoted 30 a b s) (quiet_by₂ minus_lines promoted d e 30 _)
quiet_fused FusedOp.NegMulSub d a b e s =
    quiet_then s _ (one_by_one (each_lines UniOp.Neg) copied d d)
    (quiet_then s _ (c.plus d 30 e) (quiet_by₂ times_lines promoted 30 a b s) (quiet_by₂ plus_lines promoted d 30 e _))
    (quiet_by₁ (each_lines UniOp.Neg) copied d d _)

-- lines t are the root block by mode, and the table k has the constants that it names
pub record BlockIn (m : Bool) (t : List Work) (k : List ℕ) : Type 0 where
  pub consts : List ℕ
  pub is : c.block_of m consts ≡ t
  pub grown : Grown (c.block_consts m consts) k

block_in_more : {m : Bool} {t : List Work} {k k' : List ℕ} → BlockIn m t k → Grown k k' → BlockIn m t k'
block_in_more b g = record { consts = b.consts; is = b.is; grown = grown_then b.grown g }

-- what an instruction lists: working records; a label or a branch (not under N), of the sheet's own under R; a Call of the block that
-- stands already; or a Call and then the block
pub data Said (m : Bool) (N R : Type 0) (s : State) (o : Out) : Type 0 where
  quiet : Quiet s o → Said m N R s o
  directs : (N → ⊥) → o.after ≡ s → (r : Record) → (R → Outside true false r) → o.records ≡ r ∷ [] → Said m N R s o
  calls : s.is_root_defined ≡ true → o.after.is_root_defined ≡ true → AllOutside false true o.records → Grown s.consts o.after.consts → Said m N R s o
  opens : s.is_root_defined ≡ false → o.after.is_root_defined ≡ true → (first : List Record) → AllOutside false true first
      → (t : List Work) → BlockIn m t o.after.consts → o.records ≡ first ++ around_block t → Grown s.consts o.after.consts → Said m N R s o

block_grown : (m : Bool) (k : List ℕ) → Grown k (c.block_consts m k)
unfolding c.block_consts
block_grown true k = grown_three floor mask infinity
block_grown false k = same

define_said : (N R : Type 0) (m : Bool) (s : State) (o : Out) → o.after.is_root_defined ≡ s.is_root_defined → AllOutside false true o.records
    → Grown s.consts o.after.consts → (x : Bool) → o.after.is_root_defined ≡ x → Said m N R s (then o (c.define_root x m))
unfolding then c.define_root unlisted
define_said N R m s o e p g true h = calls (sym e ∙ h) h (outside_append false true o.records [] p tt) g
define_said N R m s o e p g false h =
    opens (sym e ∙ h) refl o.records p (c.block_of m o.after.consts) (record { consts = o.after.consts; is = refl; grown = same }) refl
    (grown_then g (block_grown m o.after.consts))

root_said : (N R : Type 0) (m : Bool) (d a : ℕ) (s : State) → Said m N R s (c.root m d a s)
unfolding c.root
root_said N R m d a s = unfold then in define_said N R m s o3 equal before more-consts o3.after.is_root_defined refl
  where
    o1 : Out
    o1 = then (c.ensure_complex a s) (c.fmov 31 a)

    q1 : Quiet s o1
    q1 = quiet_then s _ (c.fmov 31 a) (quiet_ensure a s) (quiet_fmov 31 a _)

    o2 : Out
    o2 = then o1 c.call_root

    o3 : Out
    o3 = then o2 (c.fmov d 30)

    q3 : Quiet o2.after (c.fmov d 30 o2.after)
    q3 = quiet_fmov d 30 o2.after

    equal : o3.after.is_root_defined ≡ s.is_root_defined
    equal = unfold then c.call_root in (q3.rooted ∙ q1.rooted)

    more-consts : Grown s.consts o3.after.consts
    more-consts = unfold then c.call_root in grown_then q1.grown q3.grown

    before : AllOutside false true o3.records
    before = unfold then c.call_root in
        outside_append false true (o1.records ++ Record.Call 1 ∷ []) (c.fmov d 30 o2.after).records
        (outside_append false true o1.records (Record.Call 1 ∷ []) (quiet_outside false true q1) (refl, tt)) (quiet_outside false true q3)

real_root_said : (N R : Type 0) (m x : Bool) (d a : ℕ) (s : State) → Said m N R s (c.real_root_by m x d a s)
unfolding c.real_root_by
real_root_said N R m true d a s = quiet (record { rooted = refl; lines = real_root_lines d a; listed = refl; grown = same })
real_root_said N R m false d a s = root_said N R m d a s

quiet_half : (t : Bool) (d a : ℕ) (s : State) → Quiet s (c.half_by t d a s)
unfolding c.half_by c.minding_half
quiet_half false d a s = record { rooted = refl; lines = half_lines d a; listed = refl; grown = same }
quiet_half true d a s = quiet_by₁ minding_half_lines copied d a s

uni_said : (N R : Type 0) (m : Mode) (op : UniOp) (d a : ℕ) (s : State) → Said (is_stable m) N R s (rerun_uni m op d a s)
unfolding rerun_uni c.half c.abs c.real_root c.recip
uni_said N R m UniOp.Neg d a s = quiet (quiet_by₁ (each_lines UniOp.Neg) copied d a s)
uni_said N R m UniOp.Not d a s = quiet (quiet_by₁ not_lines as_real d a s)
uni_said N R m UniOp.Abs d a s = quiet (quiet_abs (is_stable m) (is_real_reg s.real a) d a s)
uni_said N R m UniOp.Root d a s = root_said N R (is_stable m) d a s
uni_said N R m UniOp.RealRoot d a s = real_root_said N R (is_stable m) (is_real_reg s.real a) d a s
uni_said N R m UniOp.Recip d a s = quiet (quiet_recip (is_stable m) (is_real_reg s.real a) d a s)
uni_said N R m UniOp.Round d a s = quiet (quiet_by₁ (each_lines UniOp.Round) copied d a s)
uni_said N R m UniOp.Floor d a s = quiet (quiet_by₁ (each_lines UniOp.Floor) copied d a s)
uni_said N R m UniOp.Ceiling d a s = quiet (quiet_by₁ (each_lines UniOp.Ceiling) copied d a s)
uni_said N R m UniOp.Trunc d a s = quiet (quiet_by₁ (each_lines UniOp.Trunc) copied d a s)
uni_said N R m UniOp.Real d a s = quiet (quiet_by₁ real_lines as_real d a s)
uni_said N R m UniOp.Imaginary d a s = quiet (quiet_by₁ imaginary_lines as_real d a s)
uni_said N R m UniOp.Conjugate d a s = quiet (quiet_by₁ conjugate_lines copied d a s)
uni_said N R m UniOp.Half d a s = quiet (quiet_half (is_minding m) d a s)
uni_said N R m UniOp.IsZero d a s = quiet (quiet_compare-zero BinOp.Equal BinOp.And d a s)
uni_said N R m UniOp.IsNotZero d a s = quiet (quiet_compare-zero BinOp.NotEqual BinOp.Or d a s)
uni_said N R m UniOp.Sign d a s = quiet (quiet_by₁ (each_lines UniOp.Sign) copied d a s)
uni_said N R m UniOp.Abs2 d a s = quiet (quiet_by₁ abs2_lines copied d a s)
uni_said N R m UniOp.TimesI d a s = quiet (quiet_by₁ timesILines as_complex d a s)
uni_said N R m UniOp.TimesNegI d a s = quiet (quiet_by₁ timesNegILines as_complex d a s)

-- in range, with some count of constants
abbrev pub InSome : Instruction → Type 0
InSome i = (count : ℕ) × InRange count i

pub rerun_said : (m : Mode) (i : Instruction) (s : State) → Said (is_stable m) (Works i) (InSome i) s (rerun m i s)
unfolding rerun c.directed
rerun_said m Instruction.Nop s = quiet (quiet_none s)
rerun_said m (Instruction.Uni op d a) s = uni_said (Unit {0}) (InSome (Instruction.Uni op d a)) m op d a s
rerun_said m (Instruction.Bi op d a b) s = quiet (quiet_bin m op d a b s)
rerun_said m (Instruction.Mov d a) s =
    quiet (two (λ q. Quiet s (cond q (unlisted s) (c.fmov d a s))) (quiet_none s) (quiet_fmov d a s) (eqb d a))
rerun_said m (Instruction.Load d p) s = quiet (quiet_load d p s)
rerun_said m (Instruction.Save a p) s = quiet (quiet_save a p s)
rerun_said m (Instruction.LoadConst d i) s = quiet (quiet_load_const d i s)
rerun_said m (Instruction.Fused op d a b e) s = quiet (quiet_fused op d a b e s)
rerun_said m (Instruction.IfElse d a b p) s = quiet (quiet_ifelse d a b p s)
rerun_said m (Instruction.LoadMath op d a p) s =
    quiet (quiet_then s _ (rerun_arith m op d a 31) (quiet_load 31 p s) (quiet_arith m op d a 31 _))
rerun_said m (Instruction.LoadConstMath op d a i) s =
    quiet (quiet_then s _ (rerun_arith m op d a 31) (quiet_load_const 31 i s) (quiet_arith m op d a 31 _))
rerun_said m (Instruction.Label l) s = directs (λ n. n) refl (Record.Label l) (λ v. v.1) refl
rerun_said m (Instruction.Branch l) s = directs (λ n. n) refl (Record.Branch l) (λ v. v.1) refl
rerun_said m (Instruction.BranchIf c l e) s = directs (λ n. n) refl (Record.BranchIf (re c) l e) (λ v. v.1.1) refl

-- ---- what a whole sheet lists

-- a listing without Root and without a Call, or the plain records up to the first Root's moves, the block, and plain records
pub data Shape (m : Bool) (o : Out) : Type 0 where
  unrooted : o.after.is_root_defined ≡ false → AllOutside true false o.records → Shape m o
  rooted : o.after.is_root_defined ≡ true → (first : List Record) → Plain first → (t : List Work) → BlockIn m t o.after.consts
      → (last : List Record) → Plain last → o.records ≡ first ++ (around_block t ++ last) → Shape m o

-- the table only grows
pub rerun_grows : (m : Mode) (i : Instruction) (s : State) → Grown s.consts (rerun m i s).after.consts
rerun_grows m i s = go (rerun_said m i s)
  where
    go : Said (is_stable m) (Works i) (InSome i) s (rerun m i s) → Grown s.consts (rerun m i s).after.consts
    go (quiet q) = q.grown
    go (directs z e r p l) = rw e same
    go (calls e r q g) = g
    go (opens n r first q t b e g) = g

pub grows : (m : Mode) (l : List Instruction) (s : State) → Grown s.consts (complexify m l s).after.consts
unfolding complexify then unlisted
grows m [] s = same
grows m (i ∷ l) s = grown_then (rerun_grows m i s) (grows m l (rerun m i s).after)

-- behind the first Root only plain records follow
pub stays : (m : Mode) (count : ℕ) (l : List Instruction) (s : State) → AllIn count l → s.is_root_defined ≡ true
    → ((complexify m l s).after.is_root_defined ≡ true) × Plain (complexify m l s).records
unfolding complexify then unlisted
stays m count [] s v e = (e, tt)
stays m count (i ∷ l) s v e = go (rerun_said m i s) (stays m count l (rerun m i s).after v.1)
  where
    o : Out
    o = rerun m i s

    p : Out
    p = complexify m l o.after

    go : Said (is_stable m) (Works i) (InSome i) s o → (o.after.is_root_defined ≡ true → (p.after.is_root_defined ≡ true) × Plain p.records)
        → (p.after.is_root_defined ≡ true) × Plain (o.records ++ p.records)
    go (quiet q) ih = let h = ih (q.rooted ∙ e) in (h.0, plain_append o.records p.records (quiet_plain q) h.1)
    go (directs z a r q g) ih =
        let h = ih (ap (λ (s : State). s.is_root_defined) a ∙ e) in
        (h.0, rw g (plain_one true false r (q (count, v.0)), h.1))
    go (calls e r q g) ih = let h = ih r in (h.0, plain_append o.records p.records (plain false true o.records q) h.1)
    go (opens n r first q t b g h) ih = absurd (true≢false (sym e ∙ n))

pub shape : (m : Mode) (count : ℕ) (l : List Instruction) (s : State) → AllIn count l → s.is_root_defined ≡ false → Shape (is_stable m) (complexify m l s)
unfolding complexify then unlisted
shape m count [] s v e = unrooted e tt
shape m count (i ∷ l) s v e =
    go (rerun_said m i s) (shape m count l (rerun m i s).after v.1) (stays m count l (rerun m i s).after v.1)
  where
    o : Out
    o = rerun m i s

    p : Out
    p = complexify m l o.after

    -- records without a Call before what is listed behind
    onto : AllOutside true false o.records → Shape (is_stable m) p → Shape (is_stable m) (then o (complexify m l))
    onto q (unrooted r g) = unfold then in unrooted r (outside_append true false o.records p.records q g)
    onto q (rooted r first pl t b last pl' g) =
        unfold then in
        rooted r (o.records ++ first) (plain_append o.records first (plain true false o.records q) pl) t b last pl'
        (rw g (sym (append_assoc o.records first (around_block t ++ last))))

    go : Said (is_stable m) (Works i) (InSome i) s o → (o.after.is_root_defined ≡ false → Shape (is_stable m) p)
        → (o.after.is_root_defined ≡ true → (p.after.is_root_defined ≡ true) × Plain p.records)
        → Shape (is_stable m) (then o (complexify m l))
    go (calls h r q g) ih st = absurd (true≢false (sym h ∙ e))
    go (opens n r first q t b g g') ih st =
        let h = st r in
        unfold then in rooted h.0 first (plain false true first q) t (block_in_more b (grows m l o.after)) p.records h.1 (rw g (append_assoc first (around_block t) p.records))
    go (quiet q) ih st = onto (quiet_outside true false q) (ih (q.rooted ∙ e))
    go (directs z a r q g) ih st = onto (rw g (q (count, v.0), tt)) (ih (ap (λ (s : State). s.is_root_defined) a ∙ e))

pub seek_plain : (rs rest : List Record) → Plain rs → seek 1 (rs ++ rest) ≡ seek 1 rest
unfolding seek is_label
seek_plain [] rest p = refl
seek_plain (Record.Work w ∷ rs) rest p = seek_plain rs rest p.1
seek_plain (Record.Label l ∷ rs) rest p = rw (ne_eqb l 1 (λ e. omega (arith, e, p.0))) (seek_plain rs rest p.1)
seek_plain (Record.Branch l ∷ rs) rest p = seek_plain rs rest p.1
seek_plain (Record.Call l ∷ rs) rest p = seek_plain rs rest p.1
seek_plain (Record.BranchIf c l e ∷ rs) rest p = seek_plain rs rest p.1

works_before : (l : List Work) (rest : List Record) → works (map Record.Work l ++ Record.Branch 0 ∷ rest) ≡ l
unfolding works
works_before [] rest = refl
works_before (a ∷ l) rest = ap (λ (t : List Work). a ∷ t) (works_before l rest)

-- the block of such a listing
pub block-of : (first last : List Record) (t : List Work) → Plain first → block (first ++ (around_block t ++ last)) ≡ t
unfolding block seek is_label
block-of first last t p =
    rw (seek_plain first (around_block t ++ last) p, append_assoc (map Record.Work t) (Record.Branch 0 ∷ Record.Label 2 ∷ []) last)
    (works_before t (Record.Label 2 ∷ last))

-- what a Call finds keeps the agreement: a listing with a Root holds the block once
pub finds_block : (k : List ℕ) (m : Mode) (count : ℕ) (l : List Instruction) (s : State) → AllIn count l → s.is_root_defined ≡ false
    → (complexify m l s).after.is_root_defined ≡ true → Block k (block (complexify m l s).records)
finds_block k m count l s v e h = go (shape m count l s v e)
  where
    go : Shape (is_stable m) (complexify m l s) → Block k (block (complexify m l s).records)
    go (unrooted r g) = absurd (true≢false (sym h ∙ r))
    go (rooted r first p t b last p' g) = rw (g, block-of first last t p) (subst (Block k) b.is (root_block_fine k (is_stable m) b.consts))
