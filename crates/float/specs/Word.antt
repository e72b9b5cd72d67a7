-- What each operation of document 01's Player gives on 64-bit words. A word is a number below 2 ^ 64; its value, and the arithmetic on values, is that of
-- IEEE 754 binary64 (`lib.Ieee`; Root.antt, Fused.antt and Integral.antt beside this file). Assumes nothing.
use Rattle.std.specs.Prelude.{ℕ, ◌-◌, ◌*◌, ◌/◌, ◌%◌, ◌^◌, Bool, cond, List, [], ◌∷◌, Float}
use Rattle.std.specs.Int.Bits.{bit_and, bit_or, bit_xor}
use Rattle.std.specs.Float.{nan, inf, fin, Format, binary64}
use Rattle.std.specs.Float.Ieee.{of_bits, to_bits, is_nan, add, sub, mul, div, lt, le, eq, ne}
use Rattle.float.specs.Root.{square_root}
use Rattle.float.specs.Fused.{fused_multiply_add}
use Rattle.float.specs.Integral.{round_to_integral}
use Rattle.float.specs.declared.integral.Direction.{Direction}
use Rattle.float.specs.declared.integral.Direction.TheVariants.{TiesToEven, TowardNegative, TowardPositive, TowardZero}

-- ---- values and words
-- 3.4: the value of a word; every NaN's pattern is the one NaN
abbrev pub value : ℕ → Float
value a = of_bits binary64 a

-- The word of a NaN that is computed from operands (document 02, c): "the bits of the first NaN operand in listing order, with bit 51 set";
-- "A NaN made from operands that are none is 7ff8000000000000"
abbrev pub mark : List ℕ → ℕ
mark [] = 0x7ff8_0000_0000_0000
mark (a ∷ operands) = cond (is_nan (value a)) (bit_or a (2 ^ 51)) (mark operands)

-- The word of a result, by its operands in listing order. Every computed result becomes a word here and nowhere else.
abbrev pub word : List ℕ → Float → ℕ
word operands nan = mark operands
word operands (inf s) = to_bits binary64 (inf s)
word operands (fin s m e) = to_bits binary64 (fin s m e)

-- an operation on one, two or three words: it is computed on their values, and rounded once
abbrev pub unary : (Format → Float → Float) → ℕ → ℕ
unary op a = word (a ∷ []) (op binary64 (value a))

abbrev pub binary : (Format → Float → Float → Float) → ℕ → ℕ → ℕ
binary op a b = word (a ∷ b ∷ []) (op binary64 (value a) (value b))

abbrev pub ternary : (Format → Float → Float → Float → Float) → ℕ → ℕ → ℕ → ℕ
ternary op a b c = word (a ∷ b ∷ c ∷ []) (op binary64 (value a) (value b) (value c))

-- ---- arithmetic (5.4.1): "rounds once, ties to even" (4.3.1)
-- addition
abbrev pub plus : ℕ → ℕ → ℕ
plus a b = binary add a b

-- subtraction
abbrev pub minus : ℕ → ℕ → ℕ
minus a b = binary sub a b

-- multiplication
abbrev pub times : ℕ → ℕ → ℕ
times a b = binary mul a b

-- division
abbrev pub divide : ℕ → ℕ → ℕ
divide a b = binary div a b

-- "Half multiplies by 0.5": 3fe0000000000000 is 0.5
abbrev pub half : ℕ → ℕ
half a = times a 0x3fe0_0000_0000_0000

-- "Recip divides 1 by its operand": 3ff0000000000000 is 1
abbrev pub recip : ℕ → ℕ
recip a = divide 0x3ff0_0000_0000_0000 a

-- squareRoot
abbrev pub root : ℕ → ℕ
root a = unary square_root a

-- "MulAdd is fusedMultiplyAdd": a * b + c
abbrev pub mul_add : ℕ → ℕ → ℕ → ℕ
mul_add a b c = ternary fused_multiply_add a b c

-- roundToIntegral (5.3.1), in each direction
abbrev pub integral : Direction → ℕ → ℕ
integral d a = unary (round_to_integral d) a

-- "Round is IEEE roundToIntegralTiesToEven"
abbrev pub round : ℕ → ℕ
round a = integral TiesToEven a

-- document 02, a): Floor, Ceiling and Trunc have "the IEEE 754 meanings toward minus infinity, plus infinity and zero"; a NaN is marked as for Round
abbrev pub floor : ℕ → ℕ
floor a = integral TowardNegative a

abbrev pub ceiling : ℕ → ℕ
ceiling a = integral TowardPositive a

abbrev pub trunc : ℕ → ℕ
trunc a = integral TowardZero a

-- ---- comparisons (5.6.1, 5.11): "comparisons give all ones or zero, and with a NaN only NotEqual holds"; with document 02, a), "the three new comparisons with a NaN are false"
abbrev pub flag : Bool → ℕ
flag b = cond b (2 ^ 64 - 1) 0

-- a is above b
abbrev pub greater_than : ℕ → ℕ → ℕ
greater_than a b = flag (lt (value b) (value a))

-- a is below b
abbrev pub little_than : ℕ → ℕ → ℕ
little_than a b = flag (lt (value a) (value b))

-- a is above b or equals it
abbrev pub greater_than_equal : ℕ → ℕ → ℕ
greater_than_equal a b = flag (le (value b) (value a))

-- a is below b or equals it
abbrev pub little_than_equal : ℕ → ℕ → ℕ
little_than_equal a b = flag (le (value a) (value b))

-- -0 equals +0
abbrev pub equal : ℕ → ℕ → ℕ
equal a b = flag (eq (value a) (value b))

-- the opposite of Equal
abbrev pub not_equal : ℕ → ℕ → ℕ
not_equal a b = flag (ne (value a) (value b))

-- document 02, a): "IsZero gives all ones for either zero, else zero": 0 is the word of +0, and of a NaN Equal is false
abbrev pub is_zero : ℕ → ℕ
is_zero a = equal a 0

-- ---- "Neg, Abs, Not, And, Or, Xor act on bits"
abbrev pub and : ℕ → ℕ → ℕ
and a b = bit_and a b

abbrev pub or : ℕ → ℕ → ℕ
or a b = bit_or a b

abbrev pub xor : ℕ → ℕ → ℕ
xor a b = bit_xor a b

-- every bit of 64 turned
abbrev pub not : ℕ → ℕ
not a = 2 ^ 64 - 1 - a

-- 5.5.1 negate: the sign's bit, the highest of 64, is turned
abbrev pub neg : ℕ → ℕ
neg a = bit_xor a (2 ^ 63)

-- 5.5.1 abs: it is cleared
abbrev pub abs : ℕ → ℕ
abs a = a % 2 ^ 63

-- "Sign keeps the sign bit alone"
abbrev pub sign : ℕ → ℕ
sign a = a / 2 ^ 63 * 2 ^ 63

-- "IfElse takes a bit from true where the place's real word has a one, else from false" (bit by bit: IfElseLaw of Laws.antt)
abbrev pub if_else : ℕ → ℕ → ℕ → ℕ
if_else c t f = or (and c t) (and (not c) f)

-- ---- ComplexBi: the real word, then the imaginary word, "rounding each operation"
-- "Plus and Minus work half by half"
abbrev pub complex_plus : ℕ → ℕ → ℕ → ℕ → ℕ × ℕ
complex_plus x1 y1 x2 y2 = (plus x1 x2, plus y1 y2)

abbrev pub complex_minus : ℕ → ℕ → ℕ → ℕ → ℕ × ℕ
complex_minus x1 y1 x2 y2 = (minus x1 x2, minus y1 y2)

-- "x1 times x2 minus y1 times y2, and y1 times x2 plus x1 times y2"
abbrev pub complex_times : ℕ → ℕ → ℕ → ℕ → ℕ × ℕ
complex_times x1 y1 x2 y2 = (minus (times x1 x2) (times y1 y2), plus (times y1 x2) (times x1 y2))

-- "x1 times x2 plus y1 times y2, and y1 times x2 minus x1 times y2, each divided by x2 squared plus y2 squared"
abbrev pub complex_divide : ℕ → ℕ → ℕ → ℕ → ℕ × ℕ
complex_divide x1 y1 x2 y2 =
    let d = plus (times x2 x2) (times y2 y2) in
    (divide (plus (times x1 x2) (times y1 y2)) d, divide (minus (times y1 x2) (times x1 y2)) d)
