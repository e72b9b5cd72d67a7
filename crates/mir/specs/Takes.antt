-- Which operations a sheet takes, and which a listing (document 01, Sheet; document 02, a).
use Rattle.std.specs.Prelude.{ℕ, Bool, true, false, not, ◌||◌, List, [], ◌∷◌, eqb}
use Rattle.mir.specs.declared.ops.UniOp.{UniOp}
use Rattle.mir.specs.declared.ops.BinOp.{BinOp}
use Rattle.mir.specs.declared.ops.ArithOp.{ArithOp}
use Rattle.mir.specs.declared.ops.FusedOp.{FusedOp}
use Rattle.mir.specs.Operation.{uni_number, bin_number, fused_number}

-- whether an operation is one of a list, by its number
abbrev pub one_of : {A : Type 0} → (A → ℕ) → A → List A → Bool
one_of number op [] = false
one_of number op (o ∷ os) = eqb (number op) (number o) || one_of number op os

-- whether a listing (true), or a sheet (false), takes an operation.
-- Sheets: UniOp, with document 02, a) all of it; listings: "Uni Neg, Not, Abs, Root, Recip, Round, Half, Sign", and Floor, Ceiling, Trunc, IsZero
abbrev pub takes_uni : Bool → UniOp → Bool
takes_uni false op = true
takes_uni true op =
    one_of uni_number op
    (UniOp.Neg ∷ UniOp.Not ∷ UniOp.Abs ∷ UniOp.Root ∷ UniOp.Recip ∷ UniOp.Round ∷ UniOp.Half ∷ UniOp.Sign ∷ UniOp.Floor ∷ UniOp.Ceiling ∷ UniOp.Trunc ∷ UniOp.IsZero ∷ [])

-- Sheets: BinOp, with document 02, a) without AndNot alone; listings: "Bi Plus, Minus, Times, Divide, GreaterThan, LittleThan, Equal,
-- NotEqual, And, Or, Xor", and GreaterThanEqual, LittleThanEqual
abbrev pub takes_bin : Bool → BinOp → Bool
takes_bin false op = not (one_of bin_number op (BinOp.AndNot ∷ []))
takes_bin true op =
    one_of bin_number op
    (BinOp.Plus ∷ BinOp.Minus ∷ BinOp.Times ∷ BinOp.Divide ∷ BinOp.GreaterThan ∷ BinOp.LittleThan ∷ BinOp.Equal ∷ BinOp.NotEqual ∷ BinOp.And ∷ BinOp.Or ∷ BinOp.Xor ∷ BinOp.GreaterThanEqual ∷ BinOp.LittleThanEqual ∷ [])

-- "all of ArithOp"; "ArithOp Plus, Minus, Times, Divide"
abbrev pub takes_arith : ArithOp → Bool
takes_arith op = true

-- all of "FusedOp"; "Fused MulAdd"
abbrev pub takes_fused : Bool → FusedOp → Bool
takes_fused false op = true
takes_fused true op = one_of fused_number op (FusedOp.MulAdd ∷ [])
