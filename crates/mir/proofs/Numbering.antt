-- An operation's number names the operation.
use mathlib.Core.Path.{◌≡◌, refl}
use mathlib.Core.Bool.{Bool, not}
use Rattle.mir.specs.Read.{got, refuse}
use Rattle.mir.specs.Operation.{uni_ops, bin_ops, arith_ops, fused_ops, uni_number, bin_number, arith_number, fused_number, taken}
use Rattle.mir.specs.declared.ops.UniOp.{UniOp}
use Rattle.mir.specs.declared.ops.BinOp.{BinOp}
use Rattle.mir.specs.declared.ops.ArithOp.{ArithOp}
use Rattle.mir.specs.declared.ops.FusedOp.{FusedOp}

pub uni_at : (takes : UniOp → Bool) (op : UniOp) → taken takes uni_ops (uni_number op) ≡ refuse (not (takes op)) 2 (got op)
unfolding uni_ops
uni_at takes UniOp.Neg = refl
uni_at takes UniOp.Not = refl
uni_at takes UniOp.Abs = refl
uni_at takes UniOp.Root = refl
uni_at takes UniOp.RealRoot = refl
uni_at takes UniOp.Recip = refl
uni_at takes UniOp.Round = refl
uni_at takes UniOp.Floor = refl
uni_at takes UniOp.Ceiling = refl
uni_at takes UniOp.Trunc = refl
uni_at takes UniOp.Real = refl
uni_at takes UniOp.Imaginary = refl
uni_at takes UniOp.Conjugate = refl
uni_at takes UniOp.Half = refl
uni_at takes UniOp.IsZero = refl
uni_at takes UniOp.IsNotZero = refl
uni_at takes UniOp.Sign = refl
uni_at takes UniOp.Abs2 = refl
uni_at takes UniOp.TimesI = refl
uni_at takes UniOp.TimesNegI = refl

pub bin_at : (takes : BinOp → Bool) (op : BinOp) → taken takes bin_ops (bin_number op) ≡ refuse (not (takes op)) 2 (got op)
unfolding bin_ops
bin_at takes BinOp.Plus = refl
bin_at takes BinOp.Minus = refl
bin_at takes BinOp.Times = refl
bin_at takes BinOp.Divide = refl
bin_at takes BinOp.GreaterThan = refl
bin_at takes BinOp.GreaterThanEqual = refl
bin_at takes BinOp.LittleThan = refl
bin_at takes BinOp.LittleThanEqual = refl
bin_at takes BinOp.Equal = refl
bin_at takes BinOp.NotEqual = refl
bin_at takes BinOp.And = refl
bin_at takes BinOp.AndNot = refl
bin_at takes BinOp.Or = refl
bin_at takes BinOp.Xor = refl
bin_at takes BinOp.Complex = refl

pub arith_at : (takes : ArithOp → Bool) (op : ArithOp) → taken takes arith_ops (arith_number op) ≡ refuse (not (takes op)) 2 (got op)
unfolding arith_ops
arith_at takes ArithOp.Plus = refl
arith_at takes ArithOp.Minus = refl
arith_at takes ArithOp.Times = refl
arith_at takes ArithOp.Divide = refl

pub fused_at : (takes : FusedOp → Bool) (op : FusedOp) → taken takes fused_ops (fused_number op) ≡ refuse (not (takes op)) 2 (got op)
unfolding fused_ops
fused_at takes FusedOp.MulAdd = refl
fused_at takes FusedOp.MulSub = refl
fused_at takes FusedOp.NegMulAdd = refl
fused_at takes FusedOp.NegMulSub = refl
