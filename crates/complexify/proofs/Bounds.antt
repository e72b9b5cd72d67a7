-- How much one instruction lists and adds, method by method: at most 64 records of at most 11 bytes, and no constant for which the table
-- has no place.
use Prim.Native.Nat.{ℕ, ◌+◌, ◌*◌, ◌≤◌}
use mathlib.Core.Path.{◌≡◌}
use mathlib.Core.Bool.{Bool, true, false, cond}
use mathlib.Core.List.{List, [], ◌∷◌, ◌++◌, map}
use native.Mathlib.Omega.{arith}
use lib.ListN.{length, length-append, length-map}
use lib.Dec.{T, leb, leb→le, ltb, eqb}
use Rattle.mir.specs.declared.ops.UniOp.{UniOp}
use Rattle.mir.specs.declared.ops.BinOp.{BinOp}
use Rattle.mir.specs.declared.ops.ArithOp.{ArithOp}
use Rattle.mir.specs.declared.ops.FusedOp.{FusedOp}
use Rattle.mir.specs.declared.records.Loc.{Loc}
use Rattle.mir.specs.declared.records.Work.{Work}
use Rattle.mir.specs.declared.records.Record.{Record}
use Rattle.mir.specs.declared.records.Instruction.{Instruction}
use Rattle.mir.specs.Register.{re, Ret, Temp}
use Rattle.mir.specs.Length.{length_of}
use Rattle.mir.specs.Encode.{record_of, encode, encode_all}
use Rattle.sheet.specs.declared.setup.Mode.{Mode}
use Rattle.sheet.specs.Setup.{is_stable, is_minding}
use Rattle.lowering.specs.Realness.{is_real_reg, is_real_loc}
use Rattle.lowering.specs.Pushes as mir
use Rattle.lowering.specs.Lines as l
use Rattle.lowering.specs.Complexifier as c
use Rattle.lowering.specs.Complexifier.{State, Out}
use Rattle.lowering.specs.Rerun.{compare_zero, rerun_uni, rerun_bin, rerun_fused, rerun_arith, rerun}
use Rattle.complexify.specs.Taken.{space}
use Rattle.complexify.proofs.Grown.{space_scale, space_exponent}

pub record Small (n : ℕ) (f : State → Out) : Type 0 where
  pub few : (s : State) → length (f s).records ≤ n
  pub room : (s : State) → space (f s).after.consts ≤ space s.consts

-- ---- patterns of methods

more : {n m : ℕ} {f : State → Out} → T (leb n m) → Small n f → Small m f
more {n} {m} t p = let h = leb→le n m t in record { few = λ s. let g = p.few s in omega (arith, h, g); room = p.room }

both : {a b : ℕ} {f g : State → Out} → Small a f → Small b g → Small (a + b) (λ s. c.then (f s) g)
unfolding c.then
both {a} {b} {f} {g} p q =
    record {
      few = λ s. let x = p.few s in let y = q.few (f s).after in simp length-append (omega (arith, x, y));
      room = λ s. let x = p.room s in let y = q.room (f s).after in omega (arith, x, y);
    }

nothing : Small 0 c.unlisted
unfolding c.unlisted
nothing = record { few = λ s. omega arith; room = λ s. omega arith }

-- lines and a register's record
lines : (w : List Work) (d : ℕ) (x : Bool) (n : ℕ) → T (leb (length w) n) → Small n (λ s. c.emit s w d x)
unfolding c.emit
lines w d x n t = let h = leb→le (length w) n t in record { few = λ s. simp length-map h; room = λ s. omega arith }

-- by the realness of one operand, or of two
one : (f : Bool → ℕ → ℕ → List Work) (g : Bool → Bool) (d a n : ℕ) → T (leb (length (f true d a)) n) → T (leb (length (f false d a)) n)
    → Small n (c.one_by_one f g d a)
unfolding c.one_by_one
one f g d a n t u = record { few = λ s. simp length-map (go (is_real_reg s.real a)); room = λ s. omega arith }
  where
    go : (x : Bool) → length (f x d a) ≤ n
    go true = leb→le (length (f true d a)) n t
    go false = leb→le (length (f false d a)) n u

two : (f : Bool → Bool → ℕ → ℕ → ℕ → List Work) (g : Bool → Bool → Bool) (d a b n : ℕ)
    → T (leb (length (f true true d a b)) n) → T (leb (length (f true false d a b)) n)
    → T (leb (length (f false true d a b)) n) → T (leb (length (f false false d a b)) n)
    → Small n (c.by_two f g d a b)
unfolding c.by_two
two f g d a b n t u v w =
    record { few = λ s. simp length-map (go (is_real_reg s.real a) (is_real_reg s.real b)); room = λ s. omega arith }
  where
    go : (x y : Bool) → length (f x y d a b) ≤ n
    go true true = leb→le (length (f true true d a b)) n t
    go true false = leb→le (length (f true false d a b)) n u
    go false true = leb→le (length (f false true d a b)) n v
    go false false = leb→le (length (f false false d a b)) n w

flag : {n : ℕ} (g : Bool → State → Out) (a : ℕ) → ((x : Bool) → Small n (g x)) → Small n (λ s. g (is_real_reg s.real a) s)
flag g a p = record { few = λ s. (p (is_real_reg s.real a)).few s; room = λ s. (p (is_real_reg s.real a)).room s }

scaled : (f : ℕ → ℕ → ℕ → List Work) (d n : ℕ) → ((i j q : ℕ) → length (f i j q) ≤ n)
    → Small n (c.with_three c.MIN_POSITIVE c.INFINITY c.QUARTER f d)
unfolding c.with_three
scaled f d n h = record { few = λ s. simp length-map (h _ _ _); room = λ s. space_scale s.consts }

powered : (f : ℕ → ℕ → ℕ → List Work) (d n : ℕ) → ((i j q : ℕ) → length (f i j q) ≤ n)
    → Small n (c.with_three c.FLOOR_FINITE c.EXP_MASK_FINITE c.INFINITY f d)
unfolding c.with_three
powered f d n h = record { few = λ s. simp length-map (h _ _ _); room = λ s. space_exponent s.consts }

-- ---- the methods

small_ensure : (d : ℕ) → Small 1 (c.ensure_complex d)
unfolding c.ensure_complex c.one_by_one l.ensure_lines
small_ensure d = one (λ x d a. l.ensure_lines x d) c.as_complex d d 1 tt tt

small_fmov : (d a : ℕ) → Small 2 (c.fmov d a)
unfolding c.fmov l.fmov_lines
small_fmov d a = one l.fmov_lines c.copied d a 2 tt tt

small_load_const : (d i : ℕ) → Small 1 (c.load_const d i)
unfolding c.load_const
small_load_const d i = lines (mir.load_const (re d) i ∷ []) d true 1 tt

small_load : (d : ℕ) (p : Loc) → Small 1 (c.load_from d p)
unfolding c.load_from l.load_lines
small_load d p = record { few = λ s. simp length-map (go (is_real_loc s.real.places p)); room = λ s. omega arith }
  where
    go : (x : Bool) → length (l.load_lines x d p) ≤ 1
    go true = omega arith
    go false = omega arith

small_save : (a : ℕ) (p : Loc) → Small 2 (c.save_to a p)
unfolding c.save_to l.save_lines
small_save a p =
    both {b = 1} {g = λ s. record { records = map Record.Work (l.save_lines a p); after = c.with_real s (c.saved_realness p s.real) }}
    (small_ensure a) (record { few = λ s. omega arith; room = λ s. omega arith })

small_stable_abs : (d a : ℕ) → Small 20 (c.stable_abs d a)
unfolding c.stable_abs l.stable_abs_lines
small_stable_abs d a = powered (l.stable_abs_lines d a) d 20 (λ i j q. omega arith)

small_stable_recip : (d a : ℕ) → Small 21 (c.stable_recip d a)
unfolding c.stable_recip l.stable_recip_lines
small_stable_recip d a = scaled (l.stable_recip_lines d a) d 21 (λ i j q. omega arith)

divide-lines : (g x : Bool) (d a b i j q : ℕ) → length (l.stable_divide_lines g x d a b i j q) ≤ 22
unfolding l.stable_divide_lines
divide-lines true true d a b i j q = omega arith
divide-lines true false d a b i j q = omega arith
divide-lines false true d a b i j q = omega arith
divide-lines false false d a b i j q = omega arith

small_stable_divide : (x : Bool) (d a b : ℕ) → Small 22 (c.stable_divide x d a b)
unfolding c.stable_divide
small_stable_divide x d a b = scaled (l.stable_divide_lines (ltb d 30) x d a b) d 22 (divide-lines (ltb d 30) x d a b)

small_abs : (m x : Bool) (d a : ℕ) → Small 20 (c.abs_by m x d a)
unfolding c.abs_by l.abs_lines
small_abs m true d a = lines (l.abs_lines true d a) d true 20 tt
small_abs true false d a = small_stable_abs d a
small_abs false false d a = lines (l.abs_lines false d a) d false 20 tt

small_recip : (m x : Bool) (d a : ℕ) → Small 21 (c.recip_by m x d a)
unfolding c.recip_by l.recip_lines
small_recip m true d a = lines (l.recip_lines true d a) d true 21 tt
small_recip true false d a = small_stable_recip d a
small_recip false false d a = lines (l.recip_lines false d a) d false 21 tt

small_minding_divide : (t x : Bool) (d a b : ℕ) → Small 24 (c.minding_divide t x d a b)
unfolding c.minding_divide
small_minding_divide true x d a b = both (small_stable_divide x Ret a b) (small_fmov Temp Ret)
small_minding_divide false x d a b = more tt (small_stable_divide x d a b)

small_divide_by : (m : Mode) (x y : Bool) (d a b : ℕ) → Small 24 (c.divide_by m x y d a b)
unfolding c.divide_by l.divide_lines
small_divide_by m true true d a b = lines (l.divide_lines true true d a b) d true 24 tt
small_divide_by m false true d a b = lines (l.divide_lines false true d a b) d false 24 tt
small_divide_by Mode.Minding x false d a b = small_minding_divide (eqb d Temp) x d a b
small_divide_by Mode.Stable x false d a b = more tt (small_stable_divide x d a b)
small_divide_by Mode.Plain true false d a b = lines (l.divide_lines true false d a b) d false 24 tt
small_divide_by Mode.Plain false false d a b = lines (l.divide_lines false false d a b) d false 24 tt

small_divide : (m : Mode) (d a b : ℕ) → Small 24 (c.divide m d a b)
unfolding c.divide
small_divide m d a b =
    record {
      few = λ s. (small_divide_by m (is_real_reg s.real a) (is_real_reg s.real b) d a b).few s;
      room = λ s. (small_divide_by m (is_real_reg s.real a) (is_real_reg s.real b) d a b).room s;
    }

small_define : (b m : Bool) → Small 43 (c.define_root b m)
unfolding c.define_root
small_define true m = more tt nothing
small_define false true = record { few = λ s. omega arith; room = λ s. space_exponent s.consts }
small_define false false = record { few = λ s. omega arith; room = λ s. omega arith }

small_directed : (r : Record) → Small 1 (c.directed r)
unfolding c.directed
small_directed r = record { few = λ s. omega arith; room = λ s. omega arith }

small_call : Small 1 c.call_root
unfolding c.call_root
small_call = record { few = λ s. omega arith; room = λ s. omega arith }

small_root : (m : Bool) (d a : ℕ) → Small 49 (c.root m d a)
unfolding c.root
small_root m d a =
    both {b = 43} {g = λ s. c.define_root s.is_root_defined m s} (both (both (both (small_ensure a) (small_fmov Temp a)) small_call) (small_fmov d Ret))
    (record { few = λ s. (small_define s.is_root_defined m).few s; room = λ s. (small_define s.is_root_defined m).room s })

small_real_root : (m x : Bool) (d a : ℕ) → Small 49 (c.real_root_by m x d a)
unfolding c.real_root_by l.real_root_lines
small_real_root m true d a = lines (l.real_root_lines d a) d true 49 tt
small_real_root m false d a = small_root m d a

small_half_by : (t : Bool) (d a : ℕ) → Small 2 (c.half_by t d a)
unfolding c.half_by l.minding_half_lines
small_half_by false d a = record { few = λ s. omega arith; room = λ s. omega arith }
small_half_by true d a = one l.minding_half_lines c.copied d a 2 tt tt

small_half : (m : Mode) (d a : ℕ) → Small 2 (c.half m d a)
unfolding c.half
small_half m d a = small_half_by (is_minding m) d a

small_plus : (d a b : ℕ) → Small 2 (c.plus d a b)
unfolding c.plus l.plus_lines
small_plus d a b = two l.plus_lines c.promoted d a b 2 tt tt tt tt

small_minus : (d a b : ℕ) → Small 2 (c.minus d a b)
unfolding c.minus l.minus_lines
small_minus d a b = two l.minus_lines c.promoted d a b 2 tt tt tt tt

small_times : (d a b : ℕ) → Small 2 (c.times d a b)
unfolding c.times l.times_lines
small_times d a b = two l.times_lines c.promoted d a b 2 tt tt tt tt

small_bits : (op : BinOp) (d a b : ℕ) → Small 2 (c.bits op d a b)
unfolding c.bits l.bits_lines
small_bits op d a b = two (l.bits_lines op) c.promoted d a b 2 tt tt tt tt

small_compare : (op join : BinOp) (d a b : ℕ) → Small 5 (c.compare op join d a b)
unfolding c.compare l.compare_lines
small_compare op join d a b = both (both (small_ensure a) (small_ensure b)) (lines (l.compare_lines op join d a b) d true 3 tt)

small_compare_zero : (op join : BinOp) (d a : ℕ) → Small 7 (compare_zero op join d a)
small_compare_zero op join d a = both (small_bits BinOp.Xor Temp Temp Temp) (small_compare op join d a Temp)

small_order : (op : BinOp) (d a b : ℕ) → Small 1 (c.by_two (l.order_lines op) c.both_as_real d a b)
unfolding l.order_lines
small_order op d a b = two (l.order_lines op) c.both_as_real d a b 1 tt tt tt tt

small_ifelse : (d a b : ℕ) (p : Loc) → Small 4 (c.ifelse d a b p)
unfolding c.ifelse l.ifelse_lines
small_ifelse d a b p = both (both (small_ensure a) (small_ensure b)) (lines (l.ifelse_lines d a b p) d false 2 tt)

small_each : (op : UniOp) (d a : ℕ) → Small 2 (c.one_by_one (l.each_lines op) c.copied d a)
unfolding l.each_lines
small_each op d a = one (l.each_lines op) c.copied d a 2 tt tt

small_fused : (op : FusedOp) (d a b k : ℕ) → Small 64 (rerun_fused op d a b k)
unfolding rerun_fused c.fused_mul_add c.fused_mul_sub c.fused_neg_mul_add c.fused_neg_mul_sub
small_fused FusedOp.MulAdd d a b k = more tt (both (small_times Ret a b) (small_plus d Ret k))
small_fused FusedOp.MulSub d a b k = more tt (both (small_times Ret a b) (small_minus d Ret k))
small_fused FusedOp.NegMulAdd d a b k = more tt (both (small_times Ret a b) (small_minus d k Ret))
small_fused FusedOp.NegMulSub d a b k = more tt (both (both (small_times Ret a b) (small_plus d Ret k)) (small_each UniOp.Neg d d))

small_arith : (m : Mode) (op : ArithOp) (d a b : ℕ) → Small 24 (rerun_arith m op d a b)
unfolding rerun_arith
small_arith m ArithOp.Plus d a b = more tt (small_plus d a b)
small_arith m ArithOp.Minus d a b = more tt (small_minus d a b)
small_arith m ArithOp.Times d a b = more tt (small_times d a b)
small_arith m ArithOp.Divide d a b = small_divide m d a b

small_uni : (m : Mode) (op : UniOp) (d a : ℕ) → Small 64 (rerun_uni m op d a)
unfolding rerun_uni c.abs c.real_root c.recip l.not_lines l.real_lines l.imaginary_lines l.conjugate_lines l.abs2_lines l.timesILines l.timesNegILines
small_uni m UniOp.Neg d a = more tt (small_each UniOp.Neg d a)
small_uni m UniOp.Not d a = one l.not_lines c.as_real d a 64 tt tt
small_uni m UniOp.Abs d a = more tt (flag (λ x. c.abs_by (is_stable m) x d a) a (λ x. small_abs (is_stable m) x d a))
small_uni m UniOp.Root d a = more tt (small_root (is_stable m) d a)
small_uni m UniOp.RealRoot d a = more tt (flag (λ x. c.real_root_by (is_stable m) x d a) a (λ x. small_real_root (is_stable m) x d a))
small_uni m UniOp.Recip d a = more tt (flag (λ x. c.recip_by (is_stable m) x d a) a (λ x. small_recip (is_stable m) x d a))
small_uni m UniOp.Round d a = more tt (small_each UniOp.Round d a)
small_uni m UniOp.Floor d a = more tt (small_each UniOp.Floor d a)
small_uni m UniOp.Ceiling d a = more tt (small_each UniOp.Ceiling d a)
small_uni m UniOp.Trunc d a = more tt (small_each UniOp.Trunc d a)
small_uni m UniOp.Real d a = one l.real_lines c.as_real d a 64 tt tt
small_uni m UniOp.Imaginary d a = one l.imaginary_lines c.as_real d a 64 tt tt
small_uni m UniOp.Conjugate d a = one l.conjugate_lines c.copied d a 64 tt tt
small_uni m UniOp.Half d a = more tt (small_half m d a)
small_uni m UniOp.IsZero d a = more tt (small_compare_zero BinOp.Equal BinOp.And d a)
small_uni m UniOp.IsNotZero d a = more tt (small_compare_zero BinOp.NotEqual BinOp.Or d a)
small_uni m UniOp.Sign d a = more tt (small_each UniOp.Sign d a)
small_uni m UniOp.Abs2 d a = one l.abs2_lines c.copied d a 64 tt tt
small_uni m UniOp.TimesI d a = one l.timesILines c.as_complex d a 64 tt tt
small_uni m UniOp.TimesNegI d a = one l.timesNegILines c.as_complex d a 64 tt tt

small_bin : (m : Mode) (op : BinOp) (d a b : ℕ) → Small 64 (rerun_bin m op d a b)
unfolding rerun_bin l.complex_lines
small_bin m BinOp.Plus d a b = more tt (small_plus d a b)
small_bin m BinOp.Minus d a b = more tt (small_minus d a b)
small_bin m BinOp.Times d a b = more tt (small_times d a b)
small_bin m BinOp.Divide d a b = more tt (small_divide m d a b)
small_bin m BinOp.GreaterThan d a b = more tt (small_order BinOp.GreaterThan d a b)
small_bin m BinOp.GreaterThanEqual d a b = more tt (small_order BinOp.GreaterThanEqual d a b)
small_bin m BinOp.LittleThan d a b = more tt (small_order BinOp.LittleThan d a b)
small_bin m BinOp.LittleThanEqual d a b = more tt (small_order BinOp.LittleThanEqual d a b)
small_bin m BinOp.Equal d a b = more tt (small_compare BinOp.Equal BinOp.And d a b)
small_bin m BinOp.NotEqual d a b = more tt (small_compare BinOp.NotEqual BinOp.Or d a b)
small_bin m BinOp.And d a b = more tt (small_bits BinOp.And d a b)
small_bin m BinOp.AndNot d a b = more tt nothing
small_bin m BinOp.Or d a b = more tt (small_bits BinOp.Or d a b)
small_bin m BinOp.Xor d a b = more tt (small_bits BinOp.Xor d a b)
small_bin m BinOp.Complex d a b = two l.complex_lines c.both_as_complex d a b 64 tt tt tt tt

-- Mov of a register to itself lists nothing
moved : (b : Bool) (f : State → Out) → Small 64 f → Small 64 (λ s. cond b (c.unlisted s) (f s))
moved true f p = more tt nothing
moved false f p = p

pub small : (m : Mode) (i : Instruction) → Small 64 (rerun m i)
unfolding rerun
small m Instruction.Nop = more tt nothing
small m (Instruction.Uni op d a) = small_uni m op d a
small m (Instruction.Bi op d a b) = small_bin m op d a b
small m (Instruction.Mov d a) = moved (eqb d a) (c.fmov d a) (more tt (small_fmov d a))
small m (Instruction.Load d p) = more tt (small_load d p)
small m (Instruction.Save a p) = more tt (small_save a p)
small m (Instruction.LoadConst d i) = more tt (small_load_const d i)
small m (Instruction.Fused op d a b k) = small_fused op d a b k
small m (Instruction.IfElse d a b p) = more tt (small_ifelse d a b p)
small m (Instruction.LoadMath op d a p) = more tt (both (small_load Temp p) (small_arith m op d a Temp))
small m (Instruction.LoadConstMath op d a i) = more tt (both (small_load_const Temp i) (small_arith m op d a Temp))
small m (Instruction.Label k) = more tt (small_directed (Record.Label k))
small m (Instruction.Branch k) = more tt (small_directed (Record.Branch k))
small m (Instruction.BranchIf k l e) = more tt (small_directed (Record.BranchIf (re k) l e))

-- ---- bytes

encode_few : (r : Record) → length (encode r) ≤ 11
unfolding record_of length_of
encode_few (Record.Work (Work.Uni op dst s1)) = omega arith
encode_few (Record.Work (Work.Bi op dst s1 s2)) = omega arith
encode_few (Record.Work (Work.Mov dst s1)) = omega arith
encode_few (Record.Work (Work.Load dst loc)) = omega arith
encode_few (Record.Work (Work.Save src loc)) = omega arith
encode_few (Record.Work (Work.LoadConst dst idx)) = omega arith
encode_few (Record.Work (Work.Fused op dst a b k)) = omega arith
encode_few (Record.Work (Work.IfElse dst t f loc)) = omega arith
encode_few (Record.Work (Work.LoadComplex xd yd loc)) = omega arith
encode_few (Record.Work (Work.SaveComplex xs ys loc)) = omega arith
encode_few (Record.Work (Work.ComplexBi op xd yd x1 y1 x2 y2)) = omega arith
encode_few (Record.Label k) = omega arith
encode_few (Record.Branch k) = omega arith
encode_few (Record.Call k) = omega arith
encode_few (Record.BranchIf k l e) = omega arith

encoded_few : (rs : List Record) → length (encode_all rs) ≤ 11 * length rs
encoded_few [] = omega arith
encoded_few (r ∷ rs) =
    let a = encode_few r in
    let b = encoded_few rs in
    let e : length (encode r ++ encode_all rs) ≡ length (encode r) + length (encode_all rs) = simp length-append in
    omega (arith, a, b, e)

-- what one instruction lists has room in the stage
pub staged : (m : Mode) (i : Instruction) (s : State) → length (encode_all (rerun m i s).records) ≤ 704
staged m i s = let a = encoded_few (rerun m i s).records in let b = (small m i).few s in omega (arith, a, b)

pub spaced : (m : Mode) (i : Instruction) (s : State) → space (rerun m i s).after.consts ≤ space s.consts
spaced m i s = (small m i).room s
