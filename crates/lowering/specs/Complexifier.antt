-- complexify.rs's `Complexifier`: what its methods list and record, under their names and in their order.
use Rattle.std.specs.Prelude.{ℕ, suc, Bool, true, false, not, cond, ◌&&◌, List, [], ◌∷◌, ◌++◌, map, length, ltb, eqb}
use Rattle.mir.specs.declared.ops.UniOp.{UniOp}
use Rattle.mir.specs.declared.ops.BinOp.{BinOp}
use Rattle.mir.specs.declared.records.Loc.{Loc}
use Rattle.mir.specs.declared.records.Work.{Work}
use Rattle.mir.specs.declared.records.Record.{Record}
use Rattle.mir.specs.Register.{re, Ret, Temp}
use Rattle.sheet.specs.declared.setup.Mode.{Mode}
use Rattle.sheet.specs.Setup.{is_minding}
use Rattle.lowering.specs.declared.realness.Realness.{Realness}
use Rattle.lowering.specs.Realness.{real, complex, is_real_reg, is_real_loc, set_reg, set_loc_complex}
use Rattle.lowering.specs.Pushes as mir
use Rattle.lowering.specs.Lines.{ensure_lines, stable_divide_lines, stable_recip_lines, stable_abs_lines, stable_root_magnitude, fmov_lines}
use Rattle.lowering.specs.Lines.{load_lines, save_lines, each_lines, abs_lines, plain_root_magnitude}
use Rattle.lowering.specs.Lines.{root_block, real_root_lines, recip_lines, half_lines, minding_half_lines, plus_lines, minus_lines, times_lines, divide_lines}
use Rattle.lowering.specs.Lines.{compare_lines, bits_lines, ifelse_lines}

-- the fields of `Complexifier` that change: `real_regs` with `real_locs`, `root_defined`, and the constants of its `mir`
pub record State : Type 0 where
  pub real : Realness
  pub is_root_defined : Bool
  pub consts : List ℕ

-- what a method lists, and the state that it leaves
pub record Out : Type 0 where
  pub records : List Record
  pub after : State

-- the state with another record of realness
abbrev pub with_real : State → Realness → State
with_real s ρ = record { real = ρ; is_root_defined = s.is_root_defined; consts = s.consts }

-- two methods one after the other
unfoldable pub then : Out → (State → Out) → Out
then o f = record { records = o.records ++ (f o.after).records; after = (f o.after).after }

-- nothing listed
unfoldable pub unlisted : State → Out
unlisted s = record { records = []; after = s }

-- one record that directs the play: `set_label`, `branch`, `branch_if`; nothing is recorded
unfoldable pub directed : Record → State → Out
directed r s = record { records = r ∷ []; after = s }

abbrev pub set_label : ℕ → State → Out
set_label l s = directed (Record.Label l) s

abbrev pub branch : ℕ → State → Out
branch l s = directed (Record.Branch l) s

abbrev pub branch_if : ℕ → ℕ → Bool → State → Out
branch_if c l e s = directed (Record.BranchIf (re c) l e) s

-- lines listed, and register d recorded as real or complex
unfoldable pub emit : State → List Work → ℕ → Bool → Out
emit s lines d f = record { records = map Record.Work lines; after = with_real s (set_reg s.real d f) }

-- lines by the realness of one or of two operands, and what is then recorded for d by the same
unfoldable pub one_by_one : (Bool → ℕ → ℕ → List Work) → (Bool → Bool) → ℕ → ℕ → State → Out
unfolding emit
one_by_one lines recorded d a s = emit s (lines (is_real_reg s.real a) d a) d (recorded (is_real_reg s.real a))

unfoldable pub by_two : (Bool → Bool → ℕ → ℕ → ℕ → List Work) → (Bool → Bool → Bool) → ℕ → ℕ → ℕ → State → Out
unfolding emit
by_two lines recorded d a b s =
    emit s (lines (is_real_reg s.real a) (is_real_reg s.real b) d a b) d (recorded (is_real_reg s.real a) (is_real_reg s.real b))

-- `copy_real`, `set_reg_real`, `set_reg_complex` by the operand; `promote_real`, and the same two, by both operands
abbrev pub copied : Bool → Bool
copied x = x

abbrev pub as_real : Bool → Bool
as_real x = real

abbrev pub as_complex : Bool → Bool
as_complex x = complex

abbrev pub promoted : Bool → Bool → Bool
promoted x y = x && y

abbrev pub both_as_real : Bool → Bool → Bool
both_as_real x y = real

abbrev pub both_as_complex : Bool → Bool → Bool
both_as_complex x y = complex

-- `ensure_complex`
unfoldable pub ensure_complex : ℕ → State → Out
unfolding emit ensure_lines
ensure_complex d s = emit s (ensure_lines (is_real_reg s.real d) d) d complex

-- ---- stable_math

-- the first position of equal bits; the count where there is none
unfoldable pub position : ℕ → List ℕ → ℕ
position v [] = 0
position v (x ∷ xs) = cond (eqb x v) 0 (suc (position v xs))

-- "Finding a constant now also says whether it was appended": it is where v stands nowhere among the constants
abbrev pub appends : ℕ → List ℕ → Bool
appends v consts = not (ltb (position v consts) (length consts))

-- `stable_const`: "Constants added by stable mode are appended unless equal bits stand earlier": the constants then, where v stands at
-- `position v`
unfoldable pub stable_const : ℕ → List ℕ → List ℕ
unfolding position
stable_const v consts = cond (appends v consts) (consts ++ v ∷ []) consts

-- f64::MIN_POSITIVE, f64::INFINITY and 0.25
abbrev pub MIN_POSITIVE : ℕ
MIN_POSITIVE = 0x0010_0000_0000_0000

abbrev pub INFINITY : ℕ
INFINITY = 0x7ff0_0000_0000_0000

abbrev pub QUARTER : ℕ
QUARTER = 0x3fd0_0000_0000_0000

-- `EXP_MASK_FINITE` and `FLOOR_FINITE`
abbrev pub EXP_MASK_FINITE : ℕ
EXP_MASK_FINITE = 0x7fe0_0000_0000_0000

abbrev pub FLOOR_FINITE : ℕ
FLOOR_FINITE = 0x0020_0000_0000_0000

-- three constants sought one after the other: the constants after each
abbrev pub with_consts : State → List ℕ → State
with_consts s k = record { real = s.real; is_root_defined = s.is_root_defined; consts = k }

abbrev pub three_consts : ℕ → ℕ → ℕ → List ℕ → List ℕ
three_consts u v w k = stable_const w (stable_const v (stable_const u k))

-- lines that name three constants, each sought after the one before it
abbrev pub three_lines : {A : Type 0} → ℕ → ℕ → ℕ → (ℕ → ℕ → ℕ → A) → List ℕ → A
three_lines u v w lines k =
    let k1 = stable_const u k in
    let k2 = stable_const v k1 in
    let k3 = stable_const w k2 in
    lines (position u k1) (position v k2) (position w k3)

unfoldable pub with_three : ℕ → ℕ → ℕ → (ℕ → ℕ → ℕ → List Work) → ℕ → State → Out
unfolding emit stable_const
with_three u v w lines d s =
    emit (with_consts s (three_consts u v w s.consts)) (three_lines u v w lines s.consts) d complex

-- `stable_divide`, `stable_recip`, and `stable_abs` with the record that `abs` leaves; x: a is recorded as real
unfoldable pub stable_divide : Bool → ℕ → ℕ → ℕ → State → Out
unfolding with_three stable_divide_lines
stable_divide x d a b s = with_three MIN_POSITIVE INFINITY QUARTER (stable_divide_lines (ltb d 30) x d a b) d s

unfoldable pub stable_recip : ℕ → ℕ → State → Out
unfolding with_three stable_recip_lines
stable_recip d a s = with_three MIN_POSITIVE INFINITY QUARTER (stable_recip_lines d a) d s

unfoldable pub stable_abs : ℕ → ℕ → State → Out
unfolding with_three stable_abs_lines
stable_abs d a s = with_three FLOOR_FINITE EXP_MASK_FINITE INFINITY (stable_abs_lines d a) d s

-- ---- impl Generator

-- `fmov`
unfoldable pub fmov : ℕ → ℕ → State → Out
unfolding one_by_one fmov_lines
fmov d a s = one_by_one fmov_lines copied d a s

-- ---- mode 2 (document 02, n): what it lists and records otherwise than mode 1; the Rust has no such mode

-- "Half lists its imaginary line only for a register recorded as complex, and for either record copies it to the destination"
unfoldable pub minding_half : ℕ → ℕ → State → Out
unfolding one_by_one minding_half_lines
minding_half d a s = one_by_one minding_half_lines copied d a s

-- "a Divide by a complex register into Temp is listed as one into Ret followed by a move to Temp [..]; the record of Ret is then complex",
-- by whether d is Temp; x: a is recorded as real
unfoldable pub minding_divide : Bool → Bool → ℕ → ℕ → ℕ → State → Out
unfolding then stable_divide fmov
minding_divide true x d a b s = then (stable_divide x Ret a b s) (fmov Temp Ret)
minding_divide false x d a b s = stable_divide x d a b s

-- ---- impl Generator, continued

-- `load_const`
unfoldable pub load_const : ℕ → ℕ → State → Out
unfolding emit
load_const d idx s = emit s (mir.load_const (re d) idx ∷ []) d real

-- `load_mem`, `load_param`, `load_stack`
unfoldable pub load_from : ℕ → Loc → State → Out
unfolding emit load_lines is_real_loc
load_from d p s = emit s (load_lines (is_real_loc s.real.places p) d p) d (is_real_loc s.real.places p)

-- `save_mem`, `save_stack`: only a Stack place is recorded, and so removed
abbrev pub saved_realness : Loc → Realness → Realness
saved_realness (Loc.Stack i) ρ = set_loc_complex ρ (Loc.Stack i)
saved_realness (Loc.Mem i) ρ = ρ
saved_realness (Loc.Param i) ρ = ρ

unfoldable pub save_to : ℕ → Loc → State → Out
unfolding then ensure_complex save_lines
save_to a p s =
    then (ensure_complex a s)
    (λ s. record { records = map Record.Work (save_lines a p); after = with_real s (saved_realness p s.real) })

-- `abs`, by mode (true: stable) and by the realness of a: "Abs of a complex register yields a complex record"
unfoldable pub abs_by : Bool → Bool → ℕ → ℕ → State → Out
unfolding emit abs_lines stable_abs
abs_by stable true d a s = emit s (abs_lines true d a) d real
abs_by true false d a s = stable_abs d a s
abs_by false false d a s = emit s (abs_lines false d a) d complex

unfoldable pub abs : Bool → ℕ → ℕ → State → Out
unfolding abs_by
abs stable d a s = abs_by stable (is_real_reg s.real a) d a s

-- `call_funclet("@complex_root")`
unfoldable pub call_root : State → Out
call_root s = record { records = Record.Call 1 ∷ []; after = with_real s (set_reg s.real Ret complex) }

-- the block of `root` between its labels: Branch 2, Label 1, the block, Branch 0, Label 2
abbrev pub around_block : List Work → List Record
around_block block = Record.Branch 2 ∷ Record.Label 1 ∷ (map Record.Work block ++ Record.Branch 0 ∷ Record.Label 2 ∷ [])

-- the block by mode, and the constants with those that it names
unfoldable pub block_of : Bool → List ℕ → List Work
unfolding root_block stable_root_magnitude plain_root_magnitude stable_const
block_of true k = root_block (three_lines FLOOR_FINITE EXP_MASK_FINITE INFINITY stable_root_magnitude k)
block_of false k = root_block plain_root_magnitude

unfoldable pub block_consts : Bool → List ℕ → List ℕ
unfolding stable_const
block_consts true k = three_consts FLOOR_FINITE EXP_MASK_FINITE INFINITY k
block_consts false k = k

-- "The first Root, or RealRoot of a complex register, appends the root block after its call and moves; later ones only call it." The
-- block's `ret` begins with `ensure_complex` of Ret, which here lists nothing and records nothing: the call recorded Ret as complex, and
-- the move of it to the destination, be that Ret itself, left it so.
unfoldable pub define_root : Bool → Bool → State → Out
unfolding block_of block_consts unlisted
define_root true stable s = unlisted s
define_root false stable s =
    record {
      records = around_block (block_of stable s.consts);
      after = record { real = s.real; is_root_defined = true; consts = block_consts stable s.consts };
    }

-- `root`
unfoldable pub root : Bool → ℕ → ℕ → State → Out
unfolding then ensure_complex fmov call_root define_root
root stable d a s =
    then (then (then (then (ensure_complex a s) (fmov Temp a)) call_root) (fmov d Ret)) (λ s. define_root s.is_root_defined stable s)

-- `real_root`, by the realness of a
unfoldable pub real_root_by : Bool → Bool → ℕ → ℕ → State → Out
unfolding emit real_root_lines root
real_root_by stable true d a s = emit s (real_root_lines d a) d real
real_root_by stable false d a s = root stable d a s

unfoldable pub real_root : Bool → ℕ → ℕ → State → Out
unfolding real_root_by
real_root stable d a s = real_root_by stable (is_real_reg s.real a) d a s

-- `recip`, by mode and by the realness of a
unfoldable pub recip_by : Bool → Bool → ℕ → ℕ → State → Out
unfolding emit recip_lines stable_recip
recip_by stable true d a s = emit s (recip_lines true d a) d real
recip_by true false d a s = stable_recip d a s
recip_by false false d a s = emit s (recip_lines false d a) d complex

unfoldable pub recip : Bool → ℕ → ℕ → State → Out
unfolding recip_by
recip stable d a s = recip_by stable (is_real_reg s.real a) d a s

-- `half`, by whether it is mode 2; in the Rust's modes "Half never changes a record"
unfoldable pub half_by : Bool → ℕ → ℕ → State → Out
unfolding half_lines minding_half
half_by false d a s = record { records = map Record.Work (half_lines d a); after = s }
half_by true d a s = minding_half d a s

unfoldable pub half : Mode → ℕ → ℕ → State → Out
unfolding half_by
half mode d a s = half_by (is_minding mode) d a s

-- `plus`, `minus`, `times`
unfoldable pub plus : ℕ → ℕ → ℕ → State → Out
unfolding by_two plus_lines
plus d a b s = by_two plus_lines promoted d a b s

unfoldable pub minus : ℕ → ℕ → ℕ → State → Out
unfolding by_two minus_lines
minus d a b s = by_two minus_lines promoted d a b s

unfoldable pub times : ℕ → ℕ → ℕ → State → Out
unfolding by_two times_lines
times d a b s = by_two times_lines promoted d a b s

-- `divide`, by mode and by the realness of a and b
unfoldable pub divide_by : Mode → Bool → Bool → ℕ → ℕ → ℕ → State → Out
unfolding emit divide_lines stable_divide minding_divide
divide_by mode x true d a b s = emit s (divide_lines x true d a b) d x
divide_by Mode.Minding x false d a b s = minding_divide (eqb d Temp) x d a b s
divide_by Mode.Stable x false d a b s = stable_divide x d a b s
divide_by Mode.Plain x false d a b s = emit s (divide_lines x false d a b) d complex

unfoldable pub divide : Mode → ℕ → ℕ → ℕ → State → Out
unfolding divide_by
divide mode d a b s = divide_by mode (is_real_reg s.real a) (is_real_reg s.real b) d a b s

-- `eq`, `neq`, by the comparison and what joins the halves
unfoldable pub compare : BinOp → BinOp → ℕ → ℕ → ℕ → State → Out
unfolding then ensure_complex emit compare_lines
compare op join d a b s = then (then (ensure_complex a s) (ensure_complex b)) (λ s. emit s (compare_lines op join d a b) d real)

-- `and`, `or`, `xor`
unfoldable pub bits : BinOp → ℕ → ℕ → ℕ → State → Out
unfolding by_two bits_lines
bits op d a b s = by_two (bits_lines op) promoted d a b s

-- `fused_mul_add`, `fused_mul_sub`, `fused_neg_mul_add`, `fused_neg_mul_sub`
unfoldable pub fused_mul_add : ℕ → ℕ → ℕ → ℕ → State → Out
unfolding then times plus
fused_mul_add d a b c s = then (times Ret a b s) (plus d Ret c)

unfoldable pub fused_mul_sub : ℕ → ℕ → ℕ → ℕ → State → Out
unfolding then times minus
fused_mul_sub d a b c s = then (times Ret a b s) (minus d Ret c)

unfoldable pub fused_neg_mul_add : ℕ → ℕ → ℕ → ℕ → State → Out
unfolding then times minus
fused_neg_mul_add d a b c s = then (times Ret a b s) (minus d c Ret)

unfoldable pub fused_neg_mul_sub : ℕ → ℕ → ℕ → ℕ → State → Out
unfolding then times plus one_by_one each_lines
fused_neg_mul_sub d a b c s = then (then (times Ret a b s) (plus d Ret c)) (one_by_one (each_lines UniOp.Neg) copied d d)

-- `ifelse`
unfoldable pub ifelse : ℕ → ℕ → ℕ → Loc → State → Out
unfolding then ensure_complex emit ifelse_lines
ifelse d a b p s = then (then (ensure_complex a s) (ensure_complex b)) (λ s. emit s (ifelse_lines d a b p) d complex)
