-- "Operations are numbered by position, from 0, in the enums of mir.rs" (document 01, Sheet).
use Rattle.std.specs.Prelude.{ℕ, zero, suc, Bool, not, List, [], ◌∷◌}
use Rattle.mir.specs.declared.ops.UniOp.{UniOp}
use Rattle.mir.specs.declared.ops.BinOp.{BinOp}
use Rattle.mir.specs.declared.ops.ArithOp.{ArithOp}
use Rattle.mir.specs.declared.ops.FusedOp.{FusedOp}
use Rattle.mir.specs.Read.{Read, got, refused, refuse}

-- UniOp, the operations of one operand: the enum's order
unfoldable pub uni_ops : List UniOp
uni_ops =
    UniOp.Neg ∷ UniOp.Not ∷ UniOp.Abs ∷ UniOp.Root ∷ UniOp.RealRoot ∷ UniOp.Recip ∷ UniOp.Round ∷ UniOp.Floor ∷
    UniOp.Ceiling ∷ UniOp.Trunc ∷ UniOp.Real ∷ UniOp.Imaginary ∷ UniOp.Conjugate ∷ UniOp.Half ∷ UniOp.IsZero ∷
    UniOp.IsNotZero ∷ UniOp.Sign ∷ UniOp.Abs2 ∷ UniOp.TimesI ∷ UniOp.TimesNegI ∷ []

-- the number of an operation
abbrev pub uni_number : UniOp → ℕ
uni_number UniOp.Neg = 0
uni_number UniOp.Not = 1
uni_number UniOp.Abs = 2
uni_number UniOp.Root = 3
uni_number UniOp.RealRoot = 4
uni_number UniOp.Recip = 5
uni_number UniOp.Round = 6
uni_number UniOp.Floor = 7
uni_number UniOp.Ceiling = 8
uni_number UniOp.Trunc = 9
uni_number UniOp.Real = 10
uni_number UniOp.Imaginary = 11
uni_number UniOp.Conjugate = 12
uni_number UniOp.Half = 13
uni_number UniOp.IsZero = 14
uni_number UniOp.IsNotZero = 15
uni_number UniOp.Sign = 16
uni_number UniOp.Abs2 = 17
uni_number UniOp.TimesI = 18
uni_number UniOp.TimesNegI = 19

-- BinOp, the operations of two operands: the enum's order
unfoldable pub bin_ops : List BinOp
bin_ops =
    BinOp.Plus ∷ BinOp.Minus ∷ BinOp.Times ∷ BinOp.Divide ∷ BinOp.GreaterThan ∷ BinOp.GreaterThanEqual ∷
    BinOp.LittleThan ∷ BinOp.LittleThanEqual ∷ BinOp.Equal ∷ BinOp.NotEqual ∷ BinOp.And ∷ BinOp.AndNot ∷ BinOp.Or ∷
    BinOp.Xor ∷ BinOp.Complex ∷ []

-- the number of an operation
abbrev pub bin_number : BinOp → ℕ
bin_number BinOp.Plus = 0
bin_number BinOp.Minus = 1
bin_number BinOp.Times = 2
bin_number BinOp.Divide = 3
bin_number BinOp.GreaterThan = 4
bin_number BinOp.GreaterThanEqual = 5
bin_number BinOp.LittleThan = 6
bin_number BinOp.LittleThanEqual = 7
bin_number BinOp.Equal = 8
bin_number BinOp.NotEqual = 9
bin_number BinOp.And = 10
bin_number BinOp.AndNot = 11
bin_number BinOp.Or = 12
bin_number BinOp.Xor = 13
bin_number BinOp.Complex = 14

-- ArithOp, the arithmetic of LoadMath, LoadConstMath and ComplexBi: the enum's order
unfoldable pub arith_ops : List ArithOp
arith_ops =
    ArithOp.Plus ∷ ArithOp.Minus ∷ ArithOp.Times ∷ ArithOp.Divide ∷ []

-- the number of an operation
abbrev pub arith_number : ArithOp → ℕ
arith_number ArithOp.Plus = 0
arith_number ArithOp.Minus = 1
arith_number ArithOp.Times = 2
arith_number ArithOp.Divide = 3

-- FusedOp, the fused operations: the enum's order
unfoldable pub fused_ops : List FusedOp
fused_ops =
    FusedOp.MulAdd ∷ FusedOp.MulSub ∷ FusedOp.NegMulAdd ∷ FusedOp.NegMulSub ∷ []

-- the number of an operation
abbrev pub fused_number : FusedOp → ℕ
fused_number FusedOp.MulAdd = 0
fused_number FusedOp.MulSub = 1
fused_number FusedOp.NegMulAdd = 2
fused_number FusedOp.NegMulSub = 3

-- the operation of a number; 2, "unknown work": one that is not listed, or that a sheet or a listing does not take
abbrev pub taken : {A : Type 0} → (A → Bool) → List A → ℕ → Read A
taken takes [] n = refused 2
taken takes (op ∷ ops) zero = refuse (not (takes op)) 2 (got op)
taken takes (op ∷ ops) (suc n) = taken takes ops n
