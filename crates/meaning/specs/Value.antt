-- Values, and what each operation of a sheet gives on them. A word is the bits of an f64. Every operation on words is the player's
-- (`float/specs/Word`): it rounds once, and a NaN keeps the mark of its first NaN operand. The mathematics of x + iy is all that is
-- rendered here; how lowering lists it is not.
use Rattle.std.specs.Prelude.{ℕ, Bool, true, false}
use Rattle.mir.specs.declared.ops.UniOp.{UniOp}
use Rattle.mir.specs.declared.ops.BinOp.{BinOp}
use Rattle.mir.specs.declared.ops.FusedOp.{FusedOp}
use Rattle.sheet.specs.declared.setup.Mode.{Mode}
use Rattle.sheet.specs.Setup.{is_stable}
use Rattle.float.specs.Word as Word

-- a real number, one word; or a complex one, its real half and its imaginary half
pub data Value : Type 0 where
  R : ℕ → Value
  C : ℕ → ℕ → Value

abbrev pub isR : Value → Bool
isR (R x) = true
isR (C x y) = false

-- its halves: a real number's imaginary half is +0
unfoldable pub re_of : Value → ℕ
re_of (R x) = x
re_of (C x y) = x

unfoldable pub im_of : Value → ℕ
im_of (R x) = 0
im_of (C x y) = y

-- the same number as a complex one
abbrev pub wide : Value → Value
wide v = C (re_of v) (im_of v)

-- f of each half that there is
unfoldable pub each : (ℕ → ℕ) → Value → Value
each f (R x) = R (f x)
each f (C x y) = C (f x) (f y)

-- ---- two operands: x, y are the halves of the first, u, v those of the second. A half that a real number has not takes no part: nothing
-- is added to 0 or multiplied by it.

unfoldable pub plus : Value → Value → Value
plus (R x) (R u) = R (Word.plus x u)
plus (R x) (C u v) = C (Word.plus x u) v
plus (C x y) (R u) = C (Word.plus x u) y
plus (C x y) (C u v) = C (Word.plus x u) (Word.plus y v)

unfoldable pub minus : Value → Value → Value
minus (R x) (R u) = R (Word.minus x u)
minus (R x) (C u v) = C (Word.minus x u) (Word.neg v)
minus (C x y) (R u) = C (Word.minus x u) y
minus (C x y) (C u v) = C (Word.minus x u) (Word.minus y v)

unfoldable pub times : Value → Value → Value
times (R x) (R u) = R (Word.times x u)
times (R x) (C u v) = C (Word.times x u) (Word.times x v)
times (C x y) (R u) = C (Word.times x u) (Word.times y u)
times (C x y) (C u v) = C (Word.minus (Word.times x u) (Word.times y v)) (Word.plus (Word.times y u) (Word.times x v))

-- u^2 + v^2: two squares and their sum, each rounded; and with the second square and the sum rounded together, by a fused multiply-add
abbrev pub squares : ℕ → ℕ → ℕ
squares u v = Word.plus (Word.times u u) (Word.times v v)

abbrev pub fused_squares : ℕ → ℕ → ℕ
fused_squares u v = Word.mul_add v v (Word.times u u)

-- p + is divided by q
abbrev pub over : ℕ → ℕ → ℕ → Value
over p s q = C (Word.divide p q) (Word.divide s q)

-- (x + iy) / (u + iv) is (x + iy) (u - iv) / (u^2 + v^2)
unfoldable pub quotient : Value → Value → Value
quotient (R x) (R u) = R (Word.divide x u)
quotient (R x) (C u v) = over (Word.times x u) (Word.neg (Word.times x v)) (fused_squares u v)
quotient (C x y) (R u) = over x y u
quotient (C x y) (C u v) =
    over (Word.plus (Word.times x u) (Word.times y v)) (Word.minus (Word.times y u) (Word.times x v)) (squares u v)

-- And, Or, Xor: f of the bits of the halves; a real operand's one word goes with both halves of the other
unfoldable pub bits : (ℕ → ℕ → ℕ) → Value → Value → Value
bits f (R x) (R u) = R (f x u)
bits f (R x) (C u v) = C (f x u) (f x v)
bits f (C x y) (R u) = C (f x u) (f y u)
bits f (C x y) (C u v) = C (f x u) (f y v)

-- GreaterThan and the like, by the real halves alone
abbrev pub order : (ℕ → ℕ → ℕ) → Value → Value → Value
order f a b = R (f (re_of a) (re_of b))

-- Equal, in which both halves must agree (joined by And), and NotEqual, in which one must differ (by Or)
abbrev pub same : (ℕ → ℕ → ℕ) → (ℕ → ℕ → ℕ) → Value → Value → Value
same f join a b = R (join (f (re_of a) (re_of b)) (f (im_of a) (im_of b)))

-- IfElse: each half bit by bit, from a where the condition's word has a one, else from b
abbrev pub chosen : ℕ → Value → Value → Value
chosen c a b = C (Word.if_else c (re_of a) (re_of b)) (Word.if_else c (im_of a) (im_of b))

-- Fused: p is the product, rounded; then it is added to c, c taken from it, it taken from c, or the sum negated
unfoldable pub fused : FusedOp → Value → Value → Value
fused FusedOp.MulAdd p c = plus p c
fused FusedOp.MulSub p c = minus p c
fused FusedOp.NegMulAdd p c = minus c p
fused FusedOp.NegMulSub p c = each Word.neg (plus p c)

-- ---- one operand

unfoldable pub conjugate : Value → Value
conjugate (R x) = R x
conjugate (C x y) = C x (Word.neg y)

unfoldable pub times_i : Value → Value
times_i (R x) = C 0 x
times_i (C x y) = C (Word.neg y) x

unfoldable pub times_neg_i : Value → Value
times_neg_i (R x) = C 0 (Word.neg x)
times_neg_i (C x y) = C y (Word.neg x)

-- the size squared
unfoldable pub abs2 : Value → Value
abs2 (R x) = R (Word.times x x)
abs2 (C x y) = C (squares x y) 0

-- 1 / (x + iy) is (x - iy) / (x^2 + y^2)
unfoldable pub inverse : Value → Value
inverse (R x) = R (Word.recip x)
inverse (C x y) = C (Word.divide x (fused_squares x y)) (Word.neg (Word.divide y (fused_squares x y)))

-- ---- stable mode: the same, of operands scaled by powers of two, so that squares neither overflow nor vanish

abbrev pub INFINITY : ℕ
INFINITY = 0x7ff0_0000_0000_0000

-- half of |x| and half of |y|, added
abbrev pub half_size : ℕ → ℕ → ℕ
half_size x y = Word.plus (Word.half (Word.abs x)) (Word.half (Word.abs y))

-- the factor for a divisor u + iv: with 2^-1022 added, its exponent alone, turned round, times 1/4; 0 where u or v is infinite or NaN
abbrev pub scale : ℕ → ℕ → ℕ
scale u v = Word.times (Word.xor (Word.and (Word.plus (half_size u v) 0x0010_0000_0000_0000) INFINITY) INFINITY) 0x3fd0_0000_0000_0000

-- a power of two of the size of x + iy: with 2^-1021 added, its exponent's bits but the lowest; and one divided by such a power
abbrev pub power : ℕ → ℕ → ℕ
power x y = Word.and (Word.plus (half_size x y) 0x0020_0000_0000_0000) 0x7fe0_0000_0000_0000

abbrev pub one_by : ℕ → ℕ
one_by p = Word.half (Word.xor p INFINITY)

-- Divide, by whether the mode is stable (modes 1 and 2): by a complex divisor, stable scales both operands by its factor
unfoldable pub quotient_in : Bool → Value → Value → Value
quotient_in stable v (R u) = quotient v (R u)
quotient_in false v (C u w) = quotient v (C u w)
quotient_in true v (C u w) = let k = R (scale u w) in quotient (times v k) (times (C u w) k)

-- Recip: stable scales before and after
unfoldable pub inverse_in : Bool → Value → Value
inverse_in stable (R x) = inverse (R x)
inverse_in false (C x y) = inverse (C x y)
inverse_in true (C x y) = let k = R (scale x y) in times (inverse (times (C x y) k)) k

-- Abs: stable scales by one over a power of two, and by the power after the root
abbrev pub scaled_size : ℕ → ℕ → ℕ
scaled_size x y = let k = one_by (power x y) in Word.root (squares (Word.times x k) (Word.times y k))

unfoldable pub modulus : Bool → Value → Value
modulus stable (R x) = R (Word.abs x)
modulus false (C x y) = C (Word.root (squares x y)) 0
modulus true (C x y) = C (Word.times (scaled_size x y) (power x y)) 0

-- ---- Root of z = x + iy

-- the larger half of a root: the root of half of |z| + |x|; in stable mode of z scaled, and scaled back by the power's root
abbrev pub larger_plain : ℕ → ℕ → ℕ
larger_plain x y = Word.root (Word.half (Word.plus (Word.root (fused_squares x y)) (Word.abs x)))

unfoldable pub larger : Bool → ℕ → ℕ → ℕ
larger false x y = larger_plain x y
larger true x y =
    let r = Word.and (Word.root (power x y)) 0x7fe0_0000_0000_0000 in
    let k = one_by (Word.times r r) in
    Word.times (larger_plain (Word.times x k) (Word.times y k)) r

-- the smaller half, y / (2 t) by the larger half t, with 0 in place of a NaN
abbrev pub smaller : ℕ → ℕ → ℕ
smaller y t = let s = Word.half (Word.divide y t) in Word.and s (Word.equal s s)

-- one of the two roots: the larger half is the real one where x is above 0
abbrev pub one_root : Bool → ℕ → ℕ → Value
one_root stable x y =
    let t = larger stable x y in
    let s = smaller y t in
    let q = Word.little_than 0 x in
    C (Word.if_else q t s) (Word.if_else q s t)

-- of w and -w the one whose real half has no sign: the root in the right half plane
abbrev pub turned : Value → Value
turned w = each (λ h. Word.xor h (Word.sign (re_of w))) w

abbrev pub root_in : Bool → Value → Value
root_in stable v = turned (one_root stable (re_of v) (im_of v))

-- RealRoot is Root but of a real number
unfoldable pub real_root_in : Bool → Value → Value
real_root_in stable (R x) = R (Word.root x)
real_root_in stable (C x y) = root_in stable (C x y)

-- ---- the table, operation by operation

unfoldable pub of_one : Mode → UniOp → Value → Value
of_one m UniOp.Neg v = each Word.neg v
of_one m UniOp.Not v = R (Word.not (re_of v))
of_one m UniOp.Abs v = modulus (is_stable m) v
of_one m UniOp.Root v = root_in (is_stable m) v
of_one m UniOp.RealRoot v = real_root_in (is_stable m) v
of_one m UniOp.Recip v = inverse_in (is_stable m) v
of_one m UniOp.Round v = each Word.round v
of_one m UniOp.Floor v = each Word.floor v
of_one m UniOp.Ceiling v = each Word.ceiling v
of_one m UniOp.Trunc v = each Word.trunc v
of_one m UniOp.Real v = R (re_of v)
of_one m UniOp.Imaginary v = R (im_of v)
of_one m UniOp.Conjugate v = conjugate v
of_one m UniOp.Half v = each Word.half v
of_one m UniOp.IsZero v = same Word.equal Word.and v (C 0 0)
of_one m UniOp.IsNotZero v = same Word.not_equal Word.or v (C 0 0)
of_one m UniOp.Sign v = each Word.sign v
of_one m UniOp.Abs2 v = abs2 v
of_one m UniOp.TimesI v = times_i v
of_one m UniOp.TimesNegI v = times_neg_i v

-- (no sheet has an AndNot)
unfoldable pub of_two : Mode → BinOp → Value → Value → Value
of_two m BinOp.Plus v w = plus v w
of_two m BinOp.Minus v w = minus v w
of_two m BinOp.Times v w = times v w
of_two m BinOp.Divide v w = quotient_in (is_stable m) v w
of_two m BinOp.GreaterThan v w = order Word.greater_than v w
of_two m BinOp.GreaterThanEqual v w = order Word.greater_than_equal v w
of_two m BinOp.LittleThan v w = order Word.little_than v w
of_two m BinOp.LittleThanEqual v w = order Word.little_than_equal v w
of_two m BinOp.Equal v w = same Word.equal Word.and v w
of_two m BinOp.NotEqual v w = same Word.not_equal Word.or v w
of_two m BinOp.And v w = bits Word.and v w
of_two m BinOp.AndNot v w = v
of_two m BinOp.Or v w = bits Word.or v w
of_two m BinOp.Xor v w = bits Word.xor v w
of_two m BinOp.Complex v w = C (re_of v) (re_of w)
