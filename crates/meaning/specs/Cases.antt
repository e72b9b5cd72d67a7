-- Worked cases of the table of values, for every operation, with real and complex operands. The values are exact fractions, worked out on
-- paper; Python's own conversion made words of them, which rounds once. Nothing of them was computed by these definitions or by the code.
use Rattle.std.specs.Prelude.{ℕ, ◌≡◌, refl, List, [], ◌∷◌, map}
use Rattle.std.specs.Float.Ieee.{of_bits, to_bits, is_nan, add, sub, mul, div, lt, le, eq, ne}
use Rattle.mir.specs.declared.ops.UniOp.{UniOp}
use Rattle.mir.specs.declared.ops.BinOp.{BinOp}
use Rattle.mir.specs.declared.ops.FusedOp.{FusedOp}
use Rattle.sheet.specs.declared.setup.Mode.{Mode}
use Rattle.float.specs.Root.{square_root}
use Rattle.float.specs.Fused.{fused_multiply_add}
use Rattle.float.specs.Integral.{round_to_integral}
use Rattle.meaning.specs.Value as Value
use Rattle.meaning.specs.Value.{Value, R, C, of_one, of_two, fused, chosen}

-- an operation in a mode, its operands, and the value that it must give; Fused by its product; IfElse by its condition's word
pub data Case : Type 0 where
  one : Mode → UniOp → Value → Value → Case
  two : Mode → BinOp → Value → Value → Value → Case
  three : FusedOp → Value → Value → Value → Case
  choice : ℕ → Value → Value → Value → Case

-- what the table gives
unfoldable tabled : Case → Value
tabled (one m op v r) = of_one m op v
tabled (two m op v w r) = of_two m op v w
tabled (three op p c r) = fused op p c
tabled (choice c v w r) = chosen c v w

-- what was worked out
unfoldable worked : Case → Value
worked (one m op v r) = r
worked (two m op v w r) = r
worked (three op p c r) = r
worked (choice c v w r) = r

unfoldable pub cases : List Case
cases =
    -- -(3)
    one Mode.Plain UniOp.Neg (R 0x4008_0000_0000_0000) (R 0xc008_0000_0000_0000)
    -- -(3 - 4i)
    ∷ one Mode.Plain UniOp.Neg (C 0x4008_0000_0000_0000 0xc010_0000_0000_0000) (C 0xc008_0000_0000_0000 0x4010_0000_0000_0000)
    -- every bit turned; the imaginary half is dropped
    ∷ one Mode.Plain UniOp.Not (C 0xffff_ffff_ffff_ffff 0x4010_0000_0000_0000) (R 0)
    -- 2.5 and 3.5, ties to even
    ∷ one Mode.Plain UniOp.Round (C 0x4004_0000_0000_0000 0x400c_0000_0000_0000) (C 0x4000_0000_0000_0000 0x4010_0000_0000_0000)
    -- -2.5 and 2.5 downwards
    ∷ one Mode.Plain UniOp.Floor (C 0xc004_0000_0000_0000 0x4004_0000_0000_0000) (C 0xc008_0000_0000_0000 0x4000_0000_0000_0000)
    -- upwards
    ∷ one Mode.Plain UniOp.Ceiling (C 0xc004_0000_0000_0000 0x4004_0000_0000_0000) (C 0xc000_0000_0000_0000 0x4008_0000_0000_0000)
    -- toward 0
    ∷ one Mode.Plain UniOp.Trunc (C 0xc004_0000_0000_0000 0x4004_0000_0000_0000) (C 0xc000_0000_0000_0000 0x4000_0000_0000_0000)
    -- re(3 + 4i)
    ∷ one Mode.Plain UniOp.Real (C 0x4008_0000_0000_0000 0x4010_0000_0000_0000) (R 0x4008_0000_0000_0000)
    -- im(3 + 4i)
    ∷ one Mode.Plain UniOp.Imaginary (C 0x4008_0000_0000_0000 0x4010_0000_0000_0000) (R 0x4010_0000_0000_0000)
    -- im(3)
    ∷ one Mode.Plain UniOp.Imaginary (R 0x4008_0000_0000_0000) (R 0)
    -- 3
    ∷ one Mode.Plain UniOp.Conjugate (R 0x4008_0000_0000_0000) (R 0x4008_0000_0000_0000)
    -- 3 - 4i
    ∷ one Mode.Plain UniOp.Conjugate (C 0x4008_0000_0000_0000 0x4010_0000_0000_0000) (C 0x4008_0000_0000_0000 0xc010_0000_0000_0000)
    -- 3/2
    ∷ one Mode.Plain UniOp.Half (R 0x4008_0000_0000_0000) (R 0x3ff8_0000_0000_0000)
    -- (3 + 5i)/2
    ∷ one Mode.Plain UniOp.Half (C 0x4008_0000_0000_0000 0x4014_0000_0000_0000) (C 0x3ff8_0000_0000_0000 0x4004_0000_0000_0000)
    -- 0 is zero
    ∷ one Mode.Plain UniOp.IsZero (R 0) (R 0xffff_ffff_ffff_ffff)
    -- i is not
    ∷ one Mode.Plain UniOp.IsZero (C 0 0x3ff0_0000_0000_0000) (R 0)
    -- -0 - 0i is zero
    ∷ one Mode.Plain UniOp.IsNotZero (C 0x8000_0000_0000_0000 0x8000_0000_0000_0000) (R 0)
    -- i is not
    ∷ one Mode.Plain UniOp.IsNotZero (C 0 0x3ff0_0000_0000_0000) (R 0xffff_ffff_ffff_ffff)
    -- the signs alone
    ∷ one Mode.Plain UniOp.Sign (C 0xc008_0000_0000_0000 0x4010_0000_0000_0000) (C 0x8000_0000_0000_0000 0)
    -- 3^2
    ∷ one Mode.Plain UniOp.Abs2 (R 0x4008_0000_0000_0000) (R 0x4022_0000_0000_0000)
    -- 3^2 + 4^2
    ∷ one Mode.Plain UniOp.Abs2 (C 0x4008_0000_0000_0000 0x4010_0000_0000_0000) (C 0x4039_0000_0000_0000 0)
    -- 3i
    ∷ one Mode.Plain UniOp.TimesI (R 0x4008_0000_0000_0000) (C 0 0x4008_0000_0000_0000)
    -- i(3 + 4i)
    ∷ one Mode.Plain UniOp.TimesI (C 0x4008_0000_0000_0000 0x4010_0000_0000_0000) (C 0xc010_0000_0000_0000 0x4008_0000_0000_0000)
    -- -3i
    ∷ one Mode.Plain UniOp.TimesNegI (R 0x4008_0000_0000_0000) (C 0 0xc008_0000_0000_0000)
    -- -i(3 + 4i)
    ∷ one Mode.Plain UniOp.TimesNegI (C 0x4008_0000_0000_0000 0x4010_0000_0000_0000) (C 0x4010_0000_0000_0000 0xc008_0000_0000_0000)
    -- |-3|
    ∷ one Mode.Plain UniOp.Abs (R 0xc008_0000_0000_0000) (R 0x4008_0000_0000_0000)
    -- |3 + 4i|
    ∷ one Mode.Plain UniOp.Abs (C 0x4008_0000_0000_0000 0x4010_0000_0000_0000) (C 0x4014_0000_0000_0000 0)
    -- 1/4
    ∷ one Mode.Plain UniOp.Recip (R 0x4010_0000_0000_0000) (R 0x3fd0_0000_0000_0000)
    -- 1/(3 + 4i) is 3/25 - 4/25 i
    ∷ one Mode.Plain UniOp.Recip (C 0x4008_0000_0000_0000 0x4010_0000_0000_0000) (C 0x3fbe_b851_eb85_1eb8 0xbfc4_7ae1_47ae_147b)
    -- the root of 4
    ∷ one Mode.Plain UniOp.Root (R 0x4010_0000_0000_0000) (C 0x4000_0000_0000_0000 0)
    -- of -4
    ∷ one Mode.Plain UniOp.Root (C 0xc010_0000_0000_0000 0) (C 0 0x4000_0000_0000_0000)
    -- of 3 - 4i
    ∷ one Mode.Plain UniOp.Root (C 0x4008_0000_0000_0000 0xc010_0000_0000_0000) (C 0x4000_0000_0000_0000 0xbff0_0000_0000_0000)
    -- of -3 - 4i, in the right half plane
    ∷ one Mode.Plain UniOp.Root (C 0xc008_0000_0000_0000 0xc010_0000_0000_0000) (C 0x3ff0_0000_0000_0000 0xc000_0000_0000_0000)
    -- of a real 4
    ∷ one Mode.Plain UniOp.RealRoot (R 0x4010_0000_0000_0000) (R 0x4000_0000_0000_0000)
    -- of 3 + 4i
    ∷ one Mode.Plain UniOp.RealRoot (C 0x4008_0000_0000_0000 0x4010_0000_0000_0000) (C 0x4000_0000_0000_0000 0x3ff0_0000_0000_0000)
    -- |-3|
    ∷ one Mode.Stable UniOp.Abs (R 0xc008_0000_0000_0000) (R 0x4008_0000_0000_0000)
    -- |3 + 4i|
    ∷ one Mode.Stable UniOp.Abs (C 0x4008_0000_0000_0000 0x4010_0000_0000_0000) (C 0x4014_0000_0000_0000 0)
    -- 1/4
    ∷ one Mode.Stable UniOp.Recip (R 0x4010_0000_0000_0000) (R 0x3fd0_0000_0000_0000)
    -- 1/(3 + 4i) is 3/25 - 4/25 i
    ∷ one Mode.Stable UniOp.Recip (C 0x4008_0000_0000_0000 0x4010_0000_0000_0000) (C 0x3fbe_b851_eb85_1eb8 0xbfc4_7ae1_47ae_147b)
    -- the root of 4
    ∷ one Mode.Stable UniOp.Root (R 0x4010_0000_0000_0000) (C 0x4000_0000_0000_0000 0)
    -- of -4
    ∷ one Mode.Stable UniOp.Root (C 0xc010_0000_0000_0000 0) (C 0 0x4000_0000_0000_0000)
    -- of 3 - 4i
    ∷ one Mode.Stable UniOp.Root (C 0x4008_0000_0000_0000 0xc010_0000_0000_0000) (C 0x4000_0000_0000_0000 0xbff0_0000_0000_0000)
    -- of -3 - 4i, in the right half plane
    ∷ one Mode.Stable UniOp.Root (C 0xc008_0000_0000_0000 0xc010_0000_0000_0000) (C 0x3ff0_0000_0000_0000 0xc000_0000_0000_0000)
    -- of a real 4
    ∷ one Mode.Stable UniOp.RealRoot (R 0x4010_0000_0000_0000) (R 0x4000_0000_0000_0000)
    -- of 3 + 4i
    ∷ one Mode.Stable UniOp.RealRoot (C 0x4008_0000_0000_0000 0x4010_0000_0000_0000) (C 0x4000_0000_0000_0000 0x3ff0_0000_0000_0000)
    -- of 2^700 i: the square overflows
    ∷ one Mode.Plain UniOp.Recip (C 0 0x6bb0_0000_0000_0000) (C 0 0x8000_0000_0000_0000)
    -- -2^-700 i
    ∷ one Mode.Stable UniOp.Recip (C 0 0x6bb0_0000_0000_0000) (C 0 0x9430_0000_0000_0000)
    -- |3 + 4i| times 2^700
    ∷ one Mode.Stable UniOp.Abs (C 0x6bc8_0000_0000_0000 0x6bd0_0000_0000_0000) (C 0x6bd4_0000_0000_0000 0)
    -- the squares overflow
    ∷ one Mode.Plain UniOp.Abs (C 0x6bc8_0000_0000_0000 0x6bd0_0000_0000_0000) (C 0x7ff0_0000_0000_0000 0)
    -- 3 + 4
    ∷ two Mode.Plain BinOp.Plus (R 0x4008_0000_0000_0000) (R 0x4010_0000_0000_0000) (R 0x401c_0000_0000_0000)
    -- 3 + (4 - 0i): -0 stays
    ∷ two Mode.Plain BinOp.Plus (R 0x4008_0000_0000_0000) (C 0x4010_0000_0000_0000 0x8000_0000_0000_0000) (C 0x401c_0000_0000_0000 0x8000_0000_0000_0000)
    -- and on the other side
    ∷ two Mode.Plain BinOp.Plus (C 0x4008_0000_0000_0000 0x8000_0000_0000_0000) (R 0x4010_0000_0000_0000) (C 0x401c_0000_0000_0000 0x8000_0000_0000_0000)
    -- (3 + 4i) + (5 + 6i)
    ∷ two Mode.Plain BinOp.Plus (C 0x4008_0000_0000_0000 0x4010_0000_0000_0000) (C 0x4014_0000_0000_0000 0x4018_0000_0000_0000) (C 0x4020_0000_0000_0000 0x4024_0000_0000_0000)
    -- 3 - 4
    ∷ two Mode.Plain BinOp.Minus (R 0x4008_0000_0000_0000) (R 0x4010_0000_0000_0000) (R 0xbff0_0000_0000_0000)
    -- 3 - (4 + 0i): 0 is negated
    ∷ two Mode.Plain BinOp.Minus (R 0x4008_0000_0000_0000) (C 0x4010_0000_0000_0000 0) (C 0xbff0_0000_0000_0000 0x8000_0000_0000_0000)
    ∷ two Mode.Plain BinOp.Minus (C 0x4008_0000_0000_0000 0x8000_0000_0000_0000) (R 0x4010_0000_0000_0000) (C 0xbff0_0000_0000_0000 0x8000_0000_0000_0000)
    -- (3 + 4i) - (5 + 7i)
    ∷ two Mode.Plain BinOp.Minus (C 0x4008_0000_0000_0000 0x4010_0000_0000_0000) (C 0x4014_0000_0000_0000 0x401c_0000_0000_0000) (C 0xc000_0000_0000_0000 0xc008_0000_0000_0000)
    -- 3 * 4
    ∷ two Mode.Plain BinOp.Times (R 0x4008_0000_0000_0000) (R 0x4010_0000_0000_0000) (R 0x4028_0000_0000_0000)
    -- 3 (4 + 5i)
    ∷ two Mode.Plain BinOp.Times (R 0x4008_0000_0000_0000) (C 0x4010_0000_0000_0000 0x4014_0000_0000_0000) (C 0x4028_0000_0000_0000 0x402e_0000_0000_0000)
    -- (4 + 5i) 3
    ∷ two Mode.Plain BinOp.Times (C 0x4010_0000_0000_0000 0x4014_0000_0000_0000) (R 0x4008_0000_0000_0000) (C 0x4028_0000_0000_0000 0x402e_0000_0000_0000)
    -- (3 + 4i)(5 + 6i)
    ∷ two Mode.Plain BinOp.Times (C 0x4008_0000_0000_0000 0x4010_0000_0000_0000) (C 0x4014_0000_0000_0000 0x4018_0000_0000_0000) (C 0xc022_0000_0000_0000 0x4043_0000_0000_0000)
    -- 6/4
    ∷ two Mode.Plain BinOp.Divide (R 0x4018_0000_0000_0000) (R 0x4010_0000_0000_0000) (R 0x3ff8_0000_0000_0000)
    -- 6/(1 + i)
    ∷ two Mode.Plain BinOp.Divide (R 0x4018_0000_0000_0000) (C 0x3ff0_0000_0000_0000 0x3ff0_0000_0000_0000) (C 0x4008_0000_0000_0000 0xc008_0000_0000_0000)
    -- (6 + 3i)/2
    ∷ two Mode.Plain BinOp.Divide (C 0x4018_0000_0000_0000 0x4008_0000_0000_0000) (R 0x4000_0000_0000_0000) (C 0x4008_0000_0000_0000 0x3ff8_0000_0000_0000)
    -- (3 + 4i)/(1 + 2i) is 11/5 - 2/5 i
    ∷ two Mode.Plain BinOp.Divide (C 0x4008_0000_0000_0000 0x4010_0000_0000_0000) (C 0x3ff0_0000_0000_0000 0x4000_0000_0000_0000) (C 0x4001_9999_9999_999a 0xbfd9_9999_9999_999a)
    -- 6/4
    ∷ two Mode.Stable BinOp.Divide (R 0x4018_0000_0000_0000) (R 0x4010_0000_0000_0000) (R 0x3ff8_0000_0000_0000)
    -- 6/(1 + i)
    ∷ two Mode.Stable BinOp.Divide (R 0x4018_0000_0000_0000) (C 0x3ff0_0000_0000_0000 0x3ff0_0000_0000_0000) (C 0x4008_0000_0000_0000 0xc008_0000_0000_0000)
    -- (6 + 3i)/2
    ∷ two Mode.Stable BinOp.Divide (C 0x4018_0000_0000_0000 0x4008_0000_0000_0000) (R 0x4000_0000_0000_0000) (C 0x4008_0000_0000_0000 0x3ff8_0000_0000_0000)
    -- (3 + 4i)/(1 + 2i) is 11/5 - 2/5 i
    ∷ two Mode.Stable BinOp.Divide (C 0x4008_0000_0000_0000 0x4010_0000_0000_0000) (C 0x3ff0_0000_0000_0000 0x4000_0000_0000_0000) (C 0x4001_9999_9999_999a 0xbfd9_9999_9999_999a)
    -- 3 > 2; imaginary halves do not count
    ∷ two Mode.Plain BinOp.GreaterThan (C 0x4008_0000_0000_0000 0x3ff0_0000_0000_0000) (C 0x4000_0000_0000_0000 0x4014_0000_0000_0000) (R 0xffff_ffff_ffff_ffff)
    -- 2 > 2
    ∷ two Mode.Plain BinOp.GreaterThan (R 0x4000_0000_0000_0000) (R 0x4000_0000_0000_0000) (R 0)
    -- 2 >= 2
    ∷ two Mode.Plain BinOp.GreaterThanEqual (R 0x4000_0000_0000_0000) (C 0x4000_0000_0000_0000 0x4014_0000_0000_0000) (R 0xffff_ffff_ffff_ffff)
    -- 1 >= 2
    ∷ two Mode.Plain BinOp.GreaterThanEqual (R 0x3ff0_0000_0000_0000) (R 0x4000_0000_0000_0000) (R 0)
    -- 2 < 3
    ∷ two Mode.Plain BinOp.LittleThan (R 0x4000_0000_0000_0000) (R 0x4008_0000_0000_0000) (R 0xffff_ffff_ffff_ffff)
    -- 3 < 3
    ∷ two Mode.Plain BinOp.LittleThan (R 0x4008_0000_0000_0000) (R 0x4008_0000_0000_0000) (R 0)
    -- 3 <= 3
    ∷ two Mode.Plain BinOp.LittleThanEqual (R 0x4008_0000_0000_0000) (R 0x4008_0000_0000_0000) (R 0xffff_ffff_ffff_ffff)
    -- 4 <= 3
    ∷ two Mode.Plain BinOp.LittleThanEqual (R 0x4010_0000_0000_0000) (R 0x4008_0000_0000_0000) (R 0)
    -- 3 = 3 - 0i
    ∷ two Mode.Plain BinOp.Equal (R 0x4008_0000_0000_0000) (C 0x4008_0000_0000_0000 0x8000_0000_0000_0000) (R 0xffff_ffff_ffff_ffff)
    -- 3 + i = 3 + 2i
    ∷ two Mode.Plain BinOp.Equal (C 0x4008_0000_0000_0000 0x3ff0_0000_0000_0000) (C 0x4008_0000_0000_0000 0x4000_0000_0000_0000) (R 0)
    -- 3 + i is not 3 + 2i
    ∷ two Mode.Plain BinOp.NotEqual (C 0x4008_0000_0000_0000 0x3ff0_0000_0000_0000) (C 0x4008_0000_0000_0000 0x4000_0000_0000_0000) (R 0xffff_ffff_ffff_ffff)
    -- 3 + 0i is 3
    ∷ two Mode.Plain BinOp.NotEqual (C 0x4008_0000_0000_0000 0) (R 0x4008_0000_0000_0000) (R 0)
    -- bits; the real operand's word twice
    ∷ two Mode.Plain BinOp.And (R 0x0000_ffff_0000_ffff) (C 0x00ff_00ff_00ff_00ff 0xffff_ffff_ffff_ffff) (C 0x0000_00ff_0000_00ff 0x0000_ffff_0000_ffff)
    ∷ two Mode.Plain BinOp.Or (C 0x0000_ffff_0000_ffff 0) (R 0x00ff_00ff_00ff_00ff) (C 0x00ff_ffff_00ff_ffff 0x00ff_00ff_00ff_00ff)
    ∷ two Mode.Plain BinOp.Xor (C 0x0000_ffff_0000_ffff 0x00ff_00ff_00ff_00ff) (C 0x00ff_00ff_00ff_00ff 0x00ff_00ff_00ff_00ff) (C 0x00ff_ff00_00ff_ff00 0)
    -- 3 + 4i of two real halves
    ∷ two Mode.Plain BinOp.Complex (C 0x4008_0000_0000_0000 0x4022_0000_0000_0000) (C 0x4010_0000_0000_0000 0x4022_0000_0000_0000) (C 0x4008_0000_0000_0000 0x4010_0000_0000_0000)
    -- mode 2 gives stable mode's values: Recip and Abs as scaled above, (3 + 4i) / (1 + 2i), and the halves of 3 and 3 + 5i
    ∷ one Mode.Minding UniOp.Recip (C 0 0x6bb0_0000_0000_0000) (C 0 0x9430_0000_0000_0000)
    ∷ one Mode.Minding UniOp.Abs (C 0x6bc8_0000_0000_0000 0x6bd0_0000_0000_0000) (C 0x6bd4_0000_0000_0000 0)
    ∷ two Mode.Minding BinOp.Divide (C 0x4008_0000_0000_0000 0x4010_0000_0000_0000) (C 0x3ff0_0000_0000_0000 0x4000_0000_0000_0000) (C 0x4001_9999_9999_999a 0xbfd9_9999_9999_999a)
    ∷ one Mode.Minding UniOp.Half (R 0x4008_0000_0000_0000) (R 0x3ff8_0000_0000_0000)
    ∷ one Mode.Minding UniOp.Half (C 0x4008_0000_0000_0000 0x4014_0000_0000_0000) (C 0x3ff8_0000_0000_0000 0x4004_0000_0000_0000)
    -- 6 + 2, 6 - 2, 2 - 6, -(6 + 2)
    ∷ three FusedOp.MulAdd (R 0x4018_0000_0000_0000) (R 0x4000_0000_0000_0000) (R 0x4020_0000_0000_0000)
    ∷ three FusedOp.MulSub (R 0x4018_0000_0000_0000) (R 0x4000_0000_0000_0000) (R 0x4010_0000_0000_0000)
    ∷ three FusedOp.NegMulAdd (R 0x4018_0000_0000_0000) (R 0x4000_0000_0000_0000) (R 0xc010_0000_0000_0000)
    ∷ three FusedOp.NegMulSub (R 0x4018_0000_0000_0000) (R 0x4000_0000_0000_0000) (R 0xc020_0000_0000_0000)
    -- all ones: the first; no ones: the second, made complex
    ∷ choice 0xffff_ffff_ffff_ffff (C 0x4008_0000_0000_0000 0x4010_0000_0000_0000) (R 0x4018_0000_0000_0000) (C 0x4008_0000_0000_0000 0x4010_0000_0000_0000)
    ∷ choice 0 (C 0x4008_0000_0000_0000 0x4010_0000_0000_0000) (R 0x4018_0000_0000_0000) (C 0x4018_0000_0000_0000 0)
    ∷ []

all_worked : map tabled cases ≡ map worked cases
unfolding cases tabled worked of_one of_two fused Value.re_of Value.im_of Value.each Value.plus Value.minus Value.times Value.quotient Value.bits Value.conjugate Value.times_i Value.times_neg_i Value.abs2 Value.inverse Value.quotient_in Value.inverse_in Value.modulus Value.larger Value.real_root_in of_bits to_bits is_nan add sub mul div lt le eq ne square_root fused_multiply_add round_to_integral
all_worked = refl
