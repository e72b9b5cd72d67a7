-- The rows of the table of first words, by operation.
use Prim.Native.Nat.{ℕ, ◌+◌, ◌<◌}
use mathlib.Core.Path.{◌≡◌, refl}
use mathlib.Core.List.{List, [], ◌∷◌, ◌++◌}
use borrow.Author.Tests.{ltb-true}
use lib.Dec.{T, ltb}
use lib.ListN.{get_or}
use Rattle.mir.specs.declared.ops.UniOp.{UniOp}
use Rattle.mir.specs.declared.ops.BinOp.{BinOp}
use Rattle.mir.specs.declared.ops.ArithOp.{ArithOp}
use Rattle.mir.specs.declared.ops.FusedOp.{FusedOp}
use Rattle.mir.specs.Operation.{uni_number, bin_number, arith_number, fused_number}
use Rattle.mir.specs.Encode.{record_of}
use Rattle.text.specs.Text.{ascii, uni_name, bin_name, fused_name}
use Rattle.assembly.specs.Lines.{math_name}
use Rattle.assembly.specs.Assembled.{Sort, a_register, a_class, an_index, instruction, FirstWord, nothing, heads}
use Rattle.assembly.proofs.Pieces.{t_true}

pub record Row (n : ℕ) (h : FirstWord) : Type 0 where
  pub low : n < 59
  pub same : get_or heads n nothing ≡ h

pub row : (n : ℕ) (h : FirstWord) → T (ltb n 59) → get_or heads n nothing ≡ h → Row n h
row n h t e = record { low = ltb-true n 59 (t_true (ltb n 59) t); same = e }

-- an instruction's row
abbrev pub of_op : List ℕ → ℕ → List ℕ → List Sort → FirstWord
of_op name kind ops sorts = record { word = name; part = instruction; start = record_of kind ops; sorts = sorts }

pub uni-row : (op : UniOp) → Row (4 + uni_number op) (of_op (uni_name op) 1 (uni_number op ∷ []) (a_register ∷ a_register ∷ []))
unfolding heads record_of ascii uni_name
uni-row UniOp.Neg = row 4 _ tt refl
uni-row UniOp.Not = row 5 _ tt refl
uni-row UniOp.Abs = row 6 _ tt refl
uni-row UniOp.Root = row 7 _ tt refl
uni-row UniOp.RealRoot = row 8 _ tt refl
uni-row UniOp.Recip = row 9 _ tt refl
uni-row UniOp.Round = row 10 _ tt refl
uni-row UniOp.Floor = row 11 _ tt refl
uni-row UniOp.Ceiling = row 12 _ tt refl
uni-row UniOp.Trunc = row 13 _ tt refl
uni-row UniOp.Real = row 14 _ tt refl
uni-row UniOp.Imaginary = row 15 _ tt refl
uni-row UniOp.Conjugate = row 16 _ tt refl
uni-row UniOp.Half = row 17 _ tt refl
uni-row UniOp.IsZero = row 18 _ tt refl
uni-row UniOp.IsNotZero = row 19 _ tt refl
uni-row UniOp.Sign = row 20 _ tt refl
uni-row UniOp.Abs2 = row 21 _ tt refl
uni-row UniOp.TimesI = row 22 _ tt refl
uni-row UniOp.TimesNegI = row 23 _ tt refl

pub bin-row : (op : BinOp) → Row (24 + bin_number op) (of_op (bin_name op) 2 (bin_number op ∷ []) (a_register ∷ a_register ∷ a_register ∷ []))
unfolding heads record_of ascii bin_name
bin-row BinOp.Plus = row 24 _ tt refl
bin-row BinOp.Minus = row 25 _ tt refl
bin-row BinOp.Times = row 26 _ tt refl
bin-row BinOp.Divide = row 27 _ tt refl
bin-row BinOp.GreaterThan = row 28 _ tt refl
bin-row BinOp.GreaterThanEqual = row 29 _ tt refl
bin-row BinOp.LittleThan = row 30 _ tt refl
bin-row BinOp.LittleThanEqual = row 31 _ tt refl
bin-row BinOp.Equal = row 32 _ tt refl
bin-row BinOp.NotEqual = row 33 _ tt refl
bin-row BinOp.And = row 34 _ tt refl
bin-row BinOp.AndNot = row 35 _ tt refl
bin-row BinOp.Or = row 36 _ tt refl
bin-row BinOp.Xor = row 37 _ tt refl
bin-row BinOp.Complex = row 38 _ tt refl

pub fused_row : (op : FusedOp) → Row (43 + fused_number op) (of_op (fused_name op) 7 (fused_number op ∷ []) (a_register ∷ a_register ∷ a_register ∷ a_register ∷ []))
unfolding heads record_of ascii fused_name
fused_row FusedOp.MulAdd = row 43 _ tt refl
fused_row FusedOp.MulSub = row 44 _ tt refl
fused_row FusedOp.NegMulAdd = row 45 _ tt refl
fused_row FusedOp.NegMulSub = row 46 _ tt refl

pub load_row : (op : ArithOp) → Row (48 + arith_number op) (of_op (math_name op ++ ascii "Load") 9 (arith_number op ∷ []) (a_register ∷ a_register ∷ a_class ∷ an_index ∷ []))
unfolding heads record_of ascii math_name
load_row ArithOp.Plus = row 48 _ tt refl
load_row ArithOp.Minus = row 49 _ tt refl
load_row ArithOp.Times = row 50 _ tt refl
load_row ArithOp.Divide = row 51 _ tt refl

pub const_row : (op : ArithOp) → Row (52 + arith_number op) (of_op (math_name op ++ ascii "Const") 10 (arith_number op ∷ []) (a_register ∷ a_register ∷ an_index ∷ []))
unfolding heads record_of ascii math_name
const_row ArithOp.Plus = row 52 _ tt refl
const_row ArithOp.Minus = row 53 _ tt refl
const_row ArithOp.Times = row 54 _ tt refl
const_row ArithOp.Divide = row 55 _ tt refl
