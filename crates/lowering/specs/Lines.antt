-- What each method of complexify.rs lists, in its order there, by the realness of its operands (true: recorded as real). d is the
-- destination, a and b are the operands: a sheet's registers, whose halves are `re` and `im`. i, j and q are indices of constants.
use Rattle.std.specs.Prelude.{ℕ, Bool, true, false, List, [], ◌∷◌, ◌++◌}
use Rattle.mir.specs.declared.ops.UniOp.{UniOp}
use Rattle.mir.specs.declared.ops.BinOp.{BinOp}
use Rattle.mir.specs.declared.records.Loc.{Loc}
use Rattle.mir.specs.declared.records.Work.{Work}
use Rattle.mir.specs.Register.{re, im, Ret, Temp, T0, T1}
use Rattle.lowering.specs.Pushes as mir

-- `ensure_complex`
unfoldable pub ensure_lines : Bool → ℕ → List Work
ensure_lines true d = mir.xor (im d) (im d) (im d) ∷ []
ensure_lines false d = []

-- ---- stable mode

-- `stable_exponent`: the constants are floor, then mask
unfoldable pub stable_exponent : ℕ → ℕ → ℕ → ℕ → List Work
stable_exponent x y i j =
    mir.abs T0 x
    ∷ mir.half T0 T0
    ∷ mir.abs T1 y
    ∷ mir.half T1 T1
    ∷ mir.plus T0 T0 T1
    ∷ mir.load_const T1 i
    ∷ mir.plus T0 T0 T1
    ∷ mir.load_const T1 j
    ∷ mir.and T0 T0 T1
    ∷ []

-- `stable_divisor_scale`: the constants are 2^-1022, infinity, then 0.25
unfoldable pub stable_divisor_scale : ℕ → ℕ → ℕ → ℕ → ℕ → List Work
unfolding stable_exponent
stable_divisor_scale x y i j q =
    stable_exponent x y i j ++ mir.xor T0 T0 T1 ∷ mir.load_const T1 q ∷ mir.times T0 T0 T1 ∷ []

-- `stable_divide` behind the scale, by the realness of a: the scaled operands stand in a' and b', c' and d'
unfoldable pub scaled_divide : Bool → ℕ → ℕ → ℕ → ℕ → ℕ → ℕ → ℕ → List Work
scaled_divide true d a b a' b' c' d' =
    mir.times a' (re a) T0
    ∷ mir.times c' (re b) T0
    ∷ mir.times d' (im b) T0
    ∷ mir.times T1 c' c'
    ∷ mir.times b' a' d'
    ∷ mir.times a' a' c'
    ∷ mir.fused_mul_add T1 d' d' T1
    ∷ mir.neg b' b'
    ∷ mir.divide (im d) b' T1
    ∷ mir.divide (re d) a' T1
    ∷ []
scaled_divide false d a b a' b' c' d' =
    mir.times a' (re a) T0
    ∷ mir.times b' (im a) T0
    ∷ mir.times c' (re b) T0
    ∷ mir.times d' (im b) T0
    ∷ mir.divide_complex (re d) (im d) a' b' c' d'
    ∷ []

-- `stable_divide`, by whether d is general: then the scaled dividend goes to Temp's pair and the divisor to d's, else the other way
unfoldable pub stable_divide_lines : Bool → Bool → ℕ → ℕ → ℕ → ℕ → ℕ → ℕ → List Work
unfolding stable_divisor_scale scaled_divide
stable_divide_lines true x d a b i j q = stable_divisor_scale (re b) (im b) i j q ++ scaled_divide x d a b (re Temp) (im Temp) (re d) (im d)
stable_divide_lines false x d a b i j q = stable_divisor_scale (re b) (im b) i j q ++ scaled_divide x d a b (re d) (im d) (re Temp) (im Temp)

-- `stable_recip`
unfoldable pub stable_recip_lines : ℕ → ℕ → ℕ → ℕ → ℕ → List Work
unfolding stable_divisor_scale
stable_recip_lines d a i j q =
    stable_divisor_scale (re a) (im a) i j q
    ++ mir.times (re Temp) (re a) T0
    ∷ mir.times (im Temp) (im a) T0
    ∷ mir.times T1 (re Temp) (re Temp)
    ∷ mir.fused_mul_add T1 (im Temp) (im Temp) T1
    ∷ mir.divide (re Temp) (re Temp) T1
    ∷ mir.divide (im Temp) (im Temp) T1
    ∷ mir.neg (im Temp) (im Temp)
    ∷ mir.times (re d) (re Temp) T0
    ∷ mir.times (im d) (im Temp) T0
    ∷ []

-- `stable_abs`: the constants are 2^-1021, 2^1023, then infinity
unfoldable pub stable_abs_lines : ℕ → ℕ → ℕ → ℕ → ℕ → List Work
unfolding stable_exponent
stable_abs_lines d a i j q =
    stable_exponent (re a) (im a) i j
    ++ mir.load_const T1 q
    ∷ mir.xor T1 T0 T1
    ∷ mir.half T1 T1
    ∷ mir.times (re Ret) (re a) T1
    ∷ mir.times T1 (im a) T1
    ∷ mir.times (re Ret) (re Ret) (re Ret)
    ∷ mir.times T1 T1 T1
    ∷ mir.plus (re Ret) (re Ret) T1
    ∷ mir.root (re Ret) (re Ret)
    ∷ mir.times (re d) (re Ret) T0
    ∷ mir.xor (im d) (im d) (im d)
    ∷ []

-- `stable_root_magnitude`: the constants of `stable_abs`
unfoldable pub stable_root_magnitude : ℕ → ℕ → ℕ → List Work
unfolding stable_exponent
stable_root_magnitude i j q =
    stable_exponent (re Temp) (im Temp) i j
    ++ mir.root T0 T0
    ∷ mir.and T0 T0 T1
    ∷ mir.times T1 T0 T0
    ∷ mir.load_const (re Ret) q
    ∷ mir.xor T1 T1 (re Ret)
    ∷ mir.half T1 T1
    ∷ mir.times (re Ret) (re Temp) T1
    ∷ mir.times T1 (im Temp) T1
    ∷ mir.times (re Temp) (re Ret) (re Ret)
    ∷ mir.fused_mul_add (re Temp) T1 T1 (re Temp)
    ∷ mir.root (re Temp) (re Temp)
    ∷ mir.abs T1 (re Ret)
    ∷ mir.plus (re Temp) (re Temp) T1
    ∷ mir.half (re Temp) (re Temp)
    ∷ mir.root (re Temp) (re Temp)
    ∷ mir.times T0 (re Temp) T0
    ∷ []

-- ---- moves and places

-- `fmov`
unfoldable pub fmov_lines : Bool → ℕ → ℕ → List Work
fmov_lines true d a = mir.fmov (re d) (re a) ∷ []
fmov_lines false d a = mir.fmov (re d) (re a) ∷ mir.fmov (im d) (im a) ∷ []

-- `load_mem`, `load_param`, `load_stack`, by the realness of the place
unfoldable pub load_lines : Bool → ℕ → Loc → List Work
load_lines true d p = mir.load (re d) p ∷ []
load_lines false d p = mir.load_complex (re d) (im d) p ∷ []

-- `save_mem`, `save_stack`, behind `ensure_complex`
unfoldable pub save_lines : ℕ → Loc → List Work
save_lines a p = mir.save_complex (re a) (im a) p ∷ []

-- ---- one operand

-- `neg`, `sign`, `round`
unfoldable pub each_lines : UniOp → Bool → ℕ → ℕ → List Work
each_lines op true d a = Work.Uni op (re d) (re a) ∷ []
each_lines op false d a = Work.Uni op (re d) (re a) ∷ Work.Uni op (im d) (im a) ∷ []

-- `abs`, of a complex register in plain mode
unfoldable pub abs_lines : Bool → ℕ → ℕ → List Work
abs_lines true d a = mir.abs (re d) (re a) ∷ []
abs_lines false d a =
    mir.times T0 (re a) (re a)
    ∷ mir.times T1 (im a) (im a)
    ∷ mir.plus (re d) T0 T1
    ∷ mir.root (re d) (re d)
    ∷ mir.xor (im d) (im d) (im d)
    ∷ []

-- `abs2`
unfoldable pub abs2_lines : Bool → ℕ → ℕ → List Work
abs2_lines true d a = mir.times (re d) (re a) (re a) ∷ []
abs2_lines false d a =
    mir.times T0 (re a) (re a)
    ∷ mir.times T1 (im a) (im a)
    ∷ mir.plus (re d) T0 T1
    ∷ mir.xor (im d) (im d) (im d)
    ∷ []

-- `times_i`
unfoldable pub timesILines : Bool → ℕ → ℕ → List Work
timesILines true d a = mir.fmov (im d) (re a) ∷ mir.xor (re d) (re d) (re d) ∷ []
timesILines false d a = mir.neg T1 (im a) ∷ mir.fmov (im d) (re a) ∷ mir.fmov (re d) T1 ∷ []

-- `times_neg_i`
unfoldable pub timesNegILines : Bool → ℕ → ℕ → List Work
timesNegILines true d a = mir.neg (im d) (re a) ∷ mir.xor (re d) (re d) (re d) ∷ []
timesNegILines false d a = mir.fmov T1 (im a) ∷ mir.neg (im d) (re a) ∷ mir.fmov (re d) T1 ∷ []

-- the block of `root`: what it computes first in plain mode
unfoldable pub plain_root_magnitude : List Work
plain_root_magnitude =
    mir.times T0 (re Temp) (re Temp)
    ∷ mir.fused_mul_add T0 (im Temp) (im Temp) T0
    ∷ mir.root T0 T0
    ∷ mir.abs T1 (re Temp)
    ∷ mir.plus T0 T0 T1
    ∷ mir.half T0 T0
    ∷ mir.root T0 T0
    ∷ []

-- the block of `root` from its label to `ret`
unfoldable pub root_block : List Work → List Work
root_block magnitude =
    mir.xor T0 T0 T0
    ∷ mir.lt T0 T0 (re Temp)
    ∷ mir.save T0 (Loc.Stack 2)
    ∷ (magnitude
    ++ mir.divide T1 (im Temp) T0
    ∷ mir.half T1 T1
    ∷ mir.eq (re Temp) T1 T1
    ∷ mir.and T1 T1 (re Temp)
    ∷ mir.ifelse (re Temp) T0 T1 (Loc.Stack 2)
    ∷ mir.ifelse (im Temp) T1 T0 (Loc.Stack 2)
    ∷ mir.sign T0 (re Temp)
    ∷ mir.xor (re Ret) (re Temp) T0
    ∷ mir.xor (im Ret) (im Temp) T0
    ∷ [])

-- `real_root` of a real register
unfoldable pub real_root_lines : ℕ → ℕ → List Work
real_root_lines d a = mir.root (re d) (re a) ∷ []

-- `recip`, of a complex register in plain mode
unfoldable pub recip_lines : Bool → ℕ → ℕ → List Work
recip_lines true d a = mir.recip (re d) (re a) ∷ []
recip_lines false d a =
    mir.times T0 (re a) (re a)
    ∷ mir.fused_mul_add T0 (im a) (im a) T0
    ∷ mir.divide (re d) (re a) T0
    ∷ mir.divide (im d) (im a) T0
    ∷ mir.neg (im d) (im d)
    ∷ []

-- `half`
unfoldable pub half_lines : ℕ → ℕ → List Work
half_lines d a = mir.half (im d) (im a) ∷ mir.half (re d) (re a) ∷ []

-- Half in mode 2 (document 02, n), by the realness of a: "Half lists its imaginary line only for a register recorded as complex"
unfoldable pub minding_half_lines : Bool → ℕ → ℕ → List Work
unfolding half_lines
minding_half_lines true d a = mir.half (re d) (re a) ∷ []
minding_half_lines false d a = half_lines d a

-- ---- two operands

-- `plus`
unfoldable pub plus_lines : Bool → Bool → ℕ → ℕ → ℕ → List Work
plus_lines true false d a b = mir.plus (re d) (re a) (re b) ∷ mir.fmov (im d) (im b) ∷ []
plus_lines false true d a b = mir.plus (re d) (re a) (re b) ∷ mir.fmov (im d) (im a) ∷ []
plus_lines false false d a b = mir.plus_complex (re d) (im d) (re a) (im a) (re b) (im b) ∷ []
plus_lines true true d a b = mir.plus (re d) (re a) (re b) ∷ []

-- `minus`
unfoldable pub minus_lines : Bool → Bool → ℕ → ℕ → ℕ → List Work
minus_lines true false d a b = mir.minus (re d) (re a) (re b) ∷ mir.neg (im d) (im b) ∷ []
minus_lines false true d a b = mir.minus (re d) (re a) (re b) ∷ mir.fmov (im d) (im a) ∷ []
minus_lines false false d a b = mir.minus_complex (re d) (im d) (re a) (im a) (re b) (im b) ∷ []
minus_lines true true d a b = mir.minus (re d) (re a) (re b) ∷ []

-- `times`
unfoldable pub times_lines : Bool → Bool → ℕ → ℕ → ℕ → List Work
times_lines true true d a b = mir.times (re d) (re a) (re b) ∷ []
times_lines true false d a b = mir.times (im d) (re a) (im b) ∷ mir.times (re d) (re a) (re b) ∷ []
times_lines false true d a b = mir.times (im d) (im a) (re b) ∷ mir.times (re d) (re a) (re b) ∷ []
times_lines false false d a b = mir.times_complex (re d) (im d) (re a) (im a) (re b) (im b) ∷ []

-- `divide`, by a complex register in plain mode
unfoldable pub divide_lines : Bool → Bool → ℕ → ℕ → ℕ → List Work
divide_lines true true d a b = mir.divide (re d) (re a) (re b) ∷ []
divide_lines false true d a b = mir.divide (im d) (im a) (re b) ∷ mir.divide (re d) (re a) (re b) ∷ []
divide_lines true false d a b =
    mir.times T0 (re b) (re b)
    ∷ mir.fused_mul_add (re Temp) (im b) (im b) T0
    ∷ mir.times T0 (re a) (re b)
    ∷ mir.times T1 (re a) (im b)
    ∷ mir.neg (im d) T1
    ∷ mir.divide (im d) (im d) (re Temp)
    ∷ mir.divide (re d) T0 (re Temp)
    ∷ []
divide_lines false false d a b = mir.divide_complex (re d) (im d) (re a) (im a) (re b) (im b) ∷ []

-- `real`
unfoldable pub real_lines : Bool → ℕ → ℕ → List Work
real_lines x d a = mir.fmov (re d) (re a) ∷ mir.xor (im d) (im d) (im d) ∷ []

-- `imaginary`
unfoldable pub imaginary_lines : Bool → ℕ → ℕ → List Work
imaginary_lines false d a = mir.fmov (re d) (im a) ∷ mir.xor (im d) (im d) (im d) ∷ []
imaginary_lines true d a = mir.xor (re d) (re d) (re d) ∷ mir.xor (im d) (im d) (im d) ∷ []

-- `conjugate`
unfoldable pub conjugate_lines : Bool → ℕ → ℕ → List Work
conjugate_lines true d a = mir.fmov (re d) (re a) ∷ []
conjugate_lines false d a = mir.fmov (re d) (re a) ∷ mir.fmov (im d) (im a) ∷ mir.neg (im d) (im d) ∷ []

-- `complex`
unfoldable pub complex_lines : Bool → Bool → ℕ → ℕ → ℕ → List Work
complex_lines x y d a b = mir.fmov (im d) (re b) ∷ mir.fmov (re d) (re a) ∷ []

-- `gt`, `lt`
unfoldable pub order_lines : BinOp → Bool → Bool → ℕ → ℕ → ℕ → List Work
order_lines op x y d a b = Work.Bi op (re d) (re a) (re b) ∷ []

-- `eq` (Equal, joined by And) and `neq` (NotEqual, joined by Or), behind `ensure_complex` of both
unfoldable pub compare_lines : BinOp → BinOp → ℕ → ℕ → ℕ → List Work
compare_lines op join d a b =
    Work.Bi op (im d) (im a) (im b)
    ∷ Work.Bi op (re d) (re a) (re b)
    ∷ Work.Bi join (re d) (re d) (im d)
    ∷ []

-- `and`, `or`, `xor`
unfoldable pub bits_lines : BinOp → Bool → Bool → ℕ → ℕ → ℕ → List Work
bits_lines op true true d a b = Work.Bi op (re d) (re a) (re b) ∷ []
bits_lines op true false d a b = Work.Bi op (im d) (re a) (im b) ∷ Work.Bi op (re d) (re a) (re b) ∷ []
bits_lines op false true d a b = Work.Bi op (im d) (im a) (re b) ∷ Work.Bi op (re d) (re a) (re b) ∷ []
bits_lines op false false d a b = Work.Bi op (im d) (im a) (im b) ∷ Work.Bi op (re d) (re a) (re b) ∷ []

-- `not`
unfoldable pub not_lines : Bool → ℕ → ℕ → List Work
not_lines x d a = mir.not (re d) (re a) ∷ []

-- `ifelse`, behind `ensure_complex` of both
unfoldable pub ifelse_lines : ℕ → ℕ → ℕ → Loc → List Work
ifelse_lines d a b p = mir.ifelse (re d) (re a) (re b) p ∷ mir.ifelse (im d) (im a) (im b) p ∷ []
