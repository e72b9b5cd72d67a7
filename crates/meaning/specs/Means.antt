-- What each instruction means to the values of a sheet's registers and places, and what a row of instructions does to them.
use Rattle.std.specs.Prelude.{ℕ, zero, suc, Bool, true, false, cond, List, [], ◌∷◌, get_or, eqb}
use Rattle.std.proofs.Math.Option.{Option, none, some}
use Rattle.mir.specs.declared.ops.UniOp.{UniOp}
use Rattle.mir.specs.declared.ops.BinOp.{BinOp}
use Rattle.mir.specs.declared.ops.ArithOp.{ArithOp}
use Rattle.mir.specs.declared.records.Loc.{Loc}
use Rattle.mir.specs.declared.records.Instruction.{Instruction}
use Rattle.mir.specs.Operation.{uni_number, bin_number}
use Rattle.mir.specs.Takes.{one_of}
use Rattle.mir.specs.Register.{Ret, Temp}
use Rattle.sheet.specs.declared.setup.Mode.{Mode}
use Rattle.sheet.specs.Setup.{is_stable, is_minding}
use Rattle.float.specs.Word as Word
use Rattle.player_machine.specs.Machine.{place, branches, Way, going, seeking}
use Rattle.lowering.specs.Labels as Labels
use Rattle.lowering.specs.Labels.{Role, role}
use Rattle.meaning.specs.Value.{Value, R, C, re_of, im_of, wide, times, fused_squares, over, quotient, chosen, fused}
use Rattle.meaning.specs.Value.{inverse, scale, scaled_size, one_root, turned, of_one, of_two}

-- the value of each register, by its number, and of each place
pub record Values : Type 0 where
  pub reg : ℕ → Value
  pub place : Loc → Value

-- a register, or a place, is given a value
abbrev pub put : ℕ → Value → Values → Values
put d v X = record { reg = λ r. cond (eqb r d) v (X.reg r); place = X.place }

abbrev pub put_place : Loc → Value → Values → Values
put_place p v X = record { reg = X.reg; place = λ q. cond (eqb (place q) (place p)) v (X.place q) }

-- a register's real value becomes the same complex one; two registers' values do
abbrev pub widen : ℕ → Values → Values
widen a X = put a (wide (X.reg a)) X

abbrev pub widened : ℕ → ℕ → Values → Values
widened a b X = widen b (widen a X)

-- ---- The row of an instruction: its destination is given the table's value of its operands, read before. Save, Root, IsZero, IsNotZero,
-- Equal, NotEqual and IfElse also make their operands complex. This is all that a formula's writer wants an instruction to do.

abbrev pub uni_widens : UniOp → Bool
uni_widens op = one_of uni_number op (UniOp.Root ∷ UniOp.IsZero ∷ UniOp.IsNotZero ∷ [])

abbrev pub bin_widens : BinOp → Bool
bin_widens op = one_of bin_number op (BinOp.Equal ∷ BinOp.NotEqual ∷ [])

abbrev pub uni_row : Mode → UniOp → ℕ → ℕ → Values → Values
uni_row m op d a X = put d (of_one m op (X.reg a)) (cond (uni_widens op) (widen a X) X)

abbrev pub bin_row : Mode → BinOp → ℕ → ℕ → ℕ → Values → Values
bin_row m op d a b X = put d (of_two m op (X.reg a) (X.reg b)) (cond (bin_widens op) (widened a b X) X)

-- the operations of LoadMath and LoadConstMath are among those of two operands
abbrev pub as_bin : ArithOp → BinOp
as_bin ArithOp.Plus = BinOp.Plus
as_bin ArithOp.Minus = BinOp.Minus
as_bin ArithOp.Times = BinOp.Times
as_bin ArithOp.Divide = BinOp.Divide

-- k are the sheet's constants; Nop, labels and branches change no value
unfoldable pub row : Mode → List ℕ → Instruction → Values → Values
row m k Instruction.Nop X = X
row m k (Instruction.Uni op d a) X = uni_row m op d a X
row m k (Instruction.Bi op d a b) X = bin_row m op d a b X
row m k (Instruction.Mov d a) X = put d (X.reg a) X
row m k (Instruction.Load d p) X = put d (X.place p) X
row m k (Instruction.Save a p) X = put_place p (wide (X.reg a)) (widen a X)
row m k (Instruction.LoadConst d idx) X = put d (R (get_or k idx 0)) X
row m k (Instruction.Fused op d a b c) X = put d (fused op (times (X.reg a) (X.reg b)) (X.reg c)) X
row m k (Instruction.IfElse d a b p) X = put d (chosen (re_of (X.place p)) (X.reg a) (X.reg b)) (widened a b X)
row m k (Instruction.LoadMath op d a p) X = put d (of_two m (as_bin op) (X.reg a) (X.place p)) X
row m k (Instruction.LoadConstMath op d a idx) X = put d (of_two m (as_bin op) (X.reg a) (R (get_or k idx 0))) X
row m k (Instruction.Label l) X = X
row m k (Instruction.Branch l) X = X
row m k (Instruction.BranchIf c l e) X = X

-- ---- What is left behind besides, in Temp, Ret and Stack 2. Words are left in a value's halves, or in its real half alone: what was real
-- stays real.

unfoldable pub halves : Value → ℕ → ℕ → Value
halves (R x) u v = R u
halves (C x y) u v = C u v

unfoldable pub real_half : Value → ℕ → Value
real_half (R x) u = R u
real_half (C x y) u = C u y

abbrev pub leave : ℕ → Value → Values → Values
leave r v X = put r (halves (X.reg r) (re_of v) (im_of v)) X

abbrev pub leave_real : ℕ → ℕ → Values → Values
leave_real r u X = put r (real_half (X.reg r) u) X

-- stable Abs of a complex value leaves the root of the scaled squares in Ret
unfoldable pub abs_leaves : Bool → Value → Values → Values
abs_leaves stable (R x) X = X
abs_leaves false (C x y) X = X
abs_leaves true (C x y) X = leave_real Ret (scaled_size x y) X

-- stable Recip of a complex value leaves the inverse of the scaled value in Temp
unfoldable pub recip_leaves : Bool → Value → Values → Values
recip_leaves stable (R x) X = X
recip_leaves false (C x y) X = X
recip_leaves true (C x y) X = leave Temp (inverse (times (C x y) (R (scale x y)))) X

-- Root of v leaves whether its real half is above 0 in Stack 2, one of the roots in Temp, and the root itself in Ret
abbrev pub root_leaves : Bool → Value → Values → Values
root_leaves stable v X =
    let w = one_root stable (re_of v) (im_of v) in
    put Ret (turned w) (put Temp w (put_place (Loc.Stack 2) (real_half (X.place (Loc.Stack 2)) (Word.little_than 0 (re_of v))) X))

-- so does RealRoot, but of a real value
unfoldable pub real_root_leaves : Bool → Value → ℕ → Values → Values
real_root_leaves stable (R x) a X = X
real_root_leaves stable (C x y) a X = root_leaves stable (C x y) (widen a X)

-- ---- Half, but in mode 2, where it is its row: the value that stood in d says how many halves are made. h is the word that comes of a half
-- that a real operand has not.

unfoldable pub halved : ℕ → Value → Value → Value
halved h (R z) a = R (Word.half (re_of a))
halved h (C z z') (C x y) = C (Word.half x) (Word.half y)
halved h (C z z') (R x) = C (Word.half x) h

-- ---- Divide

-- plain, of a real by a complex value u + iv: q = u^2 + v^2 is left in Temp's real half first, and the real halves of a and b are read
-- after that
abbrev pub plain_mixed : ℕ → ℕ → ℕ → ℕ → ℕ → Values → Values
plain_mixed u v d a b X =
    let q = fused_squares u v in
    let Y = leave_real Temp q X in
    let x = re_of (Y.reg a) in
    put d (over (Word.times x (re_of (Y.reg b))) (Word.neg (Word.times x v)) q) Y

-- stable, by a complex value; n and e are the scaled dividend and divisor. What is left in Temp: into Ret, e; else n, or for a real n its
-- products with e
unfoldable pub divide_leaves : Bool → Value → Value → Value
divide_leaves true n e = e
divide_leaves false (C x y) e = C x y
divide_leaves false (R x) e = C (Word.times x (re_of e)) (Word.neg (Word.times x (im_of e)))

-- into Temp, in mode 1, the dividend is overwritten before it is read: what comes out does not depend on it
unfoldable pub into_temp : Value → Value → Value
into_temp (C x y) e = quotient e e
into_temp (R x) e =
    let s = Word.times (re_of e) (re_of e) in
    let p = Word.times (re_of e) (im_of e) in
    over s (Word.neg p) (Word.mul_add p p s)

abbrev pub stable_divide : Value → Value → ℕ → Values → Values
stable_divide n e d X =
    cond (eqb d Temp) (put Temp (into_temp n e) X) (put d (quotient n e) (leave Temp (divide_leaves (eqb d Ret) n e) X))

-- mode 2: into Temp it is its row, and the quotient is left in Ret too; into another register as in stable mode
abbrev pub minding_divide : Value → Value → ℕ → Values → Values
minding_divide n e d X = cond (eqb d Temp) (put Temp (quotient n e) (put Ret (quotient n e) X)) (stable_divide n e d X)

-- by the values of a and b; by a real value, and plain of two complex ones, it is its row
unfoldable pub divide_by : Mode → Value → Value → ℕ → ℕ → ℕ → Values → Values
divide_by m v (R u) d a b X = put d (quotient v (R u)) X
divide_by Mode.Plain (R x) (C u w) d a b X = plain_mixed u w d a b X
divide_by Mode.Plain (C x y) (C u w) d a b X = put d (quotient (C x y) (C u w)) X
divide_by Mode.Stable v (C u w) d a b X = let k = R (scale u w) in stable_divide (times v k) (times (C u w) k) d X
divide_by Mode.Minding v (C u w) d a b X = let k = R (scale u w) in minding_divide (times v k) (times (C u w) k) d X

abbrev pub divide : Mode → ℕ → ℕ → ℕ → Values → Values
divide m d a b X = divide_by m (X.reg a) (X.reg b) d a b X

-- ---- the instructions

-- IsZero and IsNotZero put 0 into Temp first
abbrev pub zeroed : Values → Values
zeroed X = put Temp (C 0 0) X

unfoldable pub uni : Mode → ℕ → UniOp → ℕ → ℕ → Values → Values
uni m h UniOp.Neg d a X = uni_row m UniOp.Neg d a X
uni m h UniOp.Not d a X = uni_row m UniOp.Not d a X
uni m h UniOp.Abs d a X = put d (of_one m UniOp.Abs (X.reg a)) (abs_leaves (is_stable m) (X.reg a) X)
uni m h UniOp.Root d a X = put d (of_one m UniOp.Root (X.reg a)) (root_leaves (is_stable m) (X.reg a) (widen a X))
uni m h UniOp.RealRoot d a X = put d (of_one m UniOp.RealRoot (X.reg a)) (real_root_leaves (is_stable m) (X.reg a) a X)
uni m h UniOp.Recip d a X = put d (of_one m UniOp.Recip (X.reg a)) (recip_leaves (is_stable m) (X.reg a) X)
uni m h UniOp.Round d a X = uni_row m UniOp.Round d a X
uni m h UniOp.Floor d a X = uni_row m UniOp.Floor d a X
uni m h UniOp.Ceiling d a X = uni_row m UniOp.Ceiling d a X
uni m h UniOp.Trunc d a X = uni_row m UniOp.Trunc d a X
uni m h UniOp.Real d a X = uni_row m UniOp.Real d a X
uni m h UniOp.Imaginary d a X = uni_row m UniOp.Imaginary d a X
uni m h UniOp.Conjugate d a X = uni_row m UniOp.Conjugate d a X
uni m h UniOp.Half d a X = cond (is_minding m) (uni_row m UniOp.Half d a X) (put d (halved h (X.reg d) (X.reg a)) X)
uni m h UniOp.IsZero d a X = uni_row m UniOp.IsZero d a (zeroed X)
uni m h UniOp.IsNotZero d a X = uni_row m UniOp.IsNotZero d a (zeroed X)
uni m h UniOp.Sign d a X = uni_row m UniOp.Sign d a X
uni m h UniOp.Abs2 d a X = uni_row m UniOp.Abs2 d a X
uni m h UniOp.TimesI d a X = uni_row m UniOp.TimesI d a X
uni m h UniOp.TimesNegI d a X = uni_row m UniOp.TimesNegI d a X

abbrev pub bin : Mode → BinOp → ℕ → ℕ → ℕ → Values → Values
bin m op d a b X = cond (one_of bin_number op (BinOp.Divide ∷ [])) (divide m d a b X) (bin_row m op d a b X)

-- one instruction: its row, and what it leaves. Fused leaves the product in Ret; LoadMath and LoadConstMath put their second operand into
-- Temp first, and are Bi of a and Temp then.
unfoldable pub means : Mode → List ℕ → ℕ → Instruction → Values → Values
means m k h Instruction.Nop X = X
means m k h (Instruction.Uni op d a) X = uni m h op d a X
means m k h (Instruction.Bi op d a b) X = bin m op d a b X
means m k h (Instruction.Mov d a) X = row m k (Instruction.Mov d a) X
means m k h (Instruction.Load d p) X = row m k (Instruction.Load d p) X
means m k h (Instruction.Save a p) X = row m k (Instruction.Save a p) X
means m k h (Instruction.LoadConst d idx) X = row m k (Instruction.LoadConst d idx) X
means m k h (Instruction.Fused op d a b c) X =
    let p = times (X.reg a) (X.reg b) in put d (fused op p (X.reg c)) (put Ret p X)
means m k h (Instruction.IfElse d a b p) X = row m k (Instruction.IfElse d a b p) X
means m k h (Instruction.LoadMath op d a p) X = bin m (as_bin op) d a Temp (put Temp (X.place p) X)
means m k h (Instruction.LoadConstMath op d a idx) X = bin m (as_bin op) d a Temp (put Temp (R (get_or k idx 0)) X)
means m k h (Instruction.Label l) X = X
means m k h (Instruction.Branch l) X = X
means m k h (Instruction.BranchIf c l e) X = X

-- ---- one after the other

-- the way on which a sheet goes on after an instruction that it comes to: a Branch goes to its Label, a BranchIf by its condition's real half
unfoldable pub goes : Instruction → Values → Way
goes Instruction.Nop X = going
goes (Instruction.Uni op d a) X = going
goes (Instruction.Bi op d a b) X = going
goes (Instruction.Mov d a) X = going
goes (Instruction.Load d p) X = going
goes (Instruction.Save a p) X = going
goes (Instruction.LoadConst d idx) X = going
goes (Instruction.Fused op d a b c) X = going
goes (Instruction.IfElse d a b p) X = going
goes (Instruction.LoadMath op d a p) X = going
goes (Instruction.LoadConstMath op d a idx) X = going
goes (Instruction.Label l) X = going
goes (Instruction.Branch l) X = seeking l
goes (Instruction.BranchIf c l e) X = cond (branches e (re_of (X.reg c))) (seeking l) going

-- is an instruction Label l?
abbrev pub is_label_by : ℕ → Role → Bool
is_label_by l Labels.works = false
is_label_by l (Labels.labels n) = eqb n l
is_label_by l (Labels.branches n) = false

abbrev pub is_label : ℕ → Instruction → Bool
is_label l i = is_label_by l (role i)

-- The values with which a sheet stands before instruction n, where each instruction does `step` of its index; none where a jump passes
-- over it.
unfoldable pub walked : (ℕ → Instruction → Values → Values) → Way → ℕ → List Instruction → Values → Option Values
walked step going zero is X = some X
walked step going (suc n) [] X = none
walked step going (suc n) (i ∷ is) X = walked (λ j. step (suc j)) (goes i X) n is (step 0 i X)
walked step (seeking l) zero [] X = none
walked step (seeking l) zero (i ∷ is) X = cond (is_label l i) (some X) none
walked step (seeking l) (suc n) [] X = none
walked step (seeking l) (suc n) (i ∷ is) X = walked (λ j. step (suc j)) (cond (is_label l i) going (seeking l)) n is X

-- by what instructions mean; h has, for each index, the word that a Half there loses
abbrev pub stands : Mode → List ℕ → (ℕ → ℕ) → Way → ℕ → List Instruction → Values → Option Values
stands m k h way n is X = walked (λ j. means m k (h j)) way n is X

-- by the rows alone
abbrev pub stands_by_rows : Mode → List ℕ → Way → ℕ → List Instruction → Values → Option Values
stands_by_rows m k way n is X = walked (λ j. row m k) way n is X
