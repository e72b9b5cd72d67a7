-- What Root, the roundings to a whole number, MulAdd and IfElse mean, said without their definitions (theorems `nearest_root`, `one_root`, `integral`, `mul_add`, `if_else`).
-- `HasValue x s p c` says that x is finite, has the sign s, and is p / c in size. Assumes nothing.
use Rattle.std.specs.Prelude.{◌≡◌, ◌⊎◌, Bool, true, false, cond, ◌&&◌, ℕ, zero, suc, ◌+◌, ◌-◌, ◌*◌, ◌/◌, ◌%◌, ◌^◌, ◌≤◌, ◌<◌, eqb, ℤ, pos, negsuc, neg_ℤ, ◌+ℤ◌, ◌*ℤ◌, Float}
use Rattle.std.specs.Float.{binary64}
use Rattle.std.specs.Float.Ieee.{to_bits, unlike, round}
use Rattle.std.specs.Float.Ieee.Exact.{HasValue}
use Rattle.float.specs.Word.{value}
use Rattle.float.specs.declared.integral.Direction.{Direction}
use Rattle.float.specs.declared.integral.Direction.TheVariants.{TiesToEven, TowardNegative, TowardPositive, TowardZero}

-- ---- Root
-- the whole root of n is the largest whole number whose square is not above n
abbrev pub IsWholeRoot : ℕ → ℕ → Type 0
IsWholeRoot n r = (r * r ≤ n) × (n < (r + 1) * (r + 1))

-- y is the nearest value to the root of x. With the unit 2 ^ k * 2 ^ -1074, x is n squared units, a number of 105 or 106 digits, and y is r units;
-- r has 53 digits or is 2 ^ 53, so that the unit is the format's own step there; and n lies strictly between the squares of r - 1 / 2 and r + 1 / 2.
pub record NearestRoot (x y : Float) : Type 0 where
  pub n : ℕ
  pub r : ℕ
  pub k : ℕ
  pub operand : HasValue x false (n * 4 ^ k) (2 ^ 2148)
  pub scaled : (2 ^ 104 ≤ n) × (n < 2 ^ 106)
  pub result : HasValue y false (r * 2 ^ k) (2 ^ 1074)
  pub digits : (2 ^ 52 ≤ r) × (r ≤ 2 ^ 53)
  pub nearest : ((2 * r - 1) * (2 * r - 1) < 4 * n) × (4 * n < (2 * r + 1) * (2 * r + 1))

-- so is the root of every positive and finite word
abbrev pub RootLaw : (Float → Float) → Type 0
RootLaw root = (a : ℕ) → 0 < a → a < 2047 * 2 ^ 52 → NearestRoot (value a) (root (value a))

-- and no value has two nearest roots: the law leaves one word
abbrev pub OneRoot : Type 0
OneRoot = (x y z : Float) → NearestRoot x y → NearestRoot x z → to_bits binary64 y ≡ to_bits binary64 z

-- ---- Round, Floor, Ceiling and Trunc
-- n is the greatest whole number that is not above p / c, or the least that is not below it
abbrev pub NotAbove : ℕ → ℕ → ℕ → Type 0
NotAbove p c n = (n * c ≤ p) × (p < n * c + c)

abbrev pub NotBelow : ℕ → ℕ → ℕ → Type 0
NotBelow p c n = (p ≤ n * c) × (n * c < p + c)

-- p / c is at most 1 / 2 from n, and where it is 1 / 2, n is even
abbrev pub Nearest : ℕ → ℕ → ℕ → Type 0
Nearest p c n =
    (2 * (n * c) ≤ 2 * p + c) × (2 * p ≤ 2 * (n * c) + c) × ((2 * (n * c) ≡ 2 * p + c) ⊎ (2 * p ≡ 2 * (n * c) + c) → n % 2 ≡ 0)

-- the size n of the whole number that p / c, with the sign s, goes to in each direction of IEEE 754
abbrev pub GoesTo : Direction → Bool → ℕ → ℕ → ℕ → Type 0
GoesTo TiesToEven s p c n = Nearest p c n
GoesTo TowardNegative false p c n = NotAbove p c n
GoesTo TowardNegative true p c n = NotBelow p c n
GoesTo TowardPositive false p c n = NotBelow p c n
GoesTo TowardPositive true p c n = NotAbove p c n
GoesTo TowardZero s p c n = NotAbove p c n

-- "One fact about integral rounding serves all directions and Round": of every finite word, however its value is written as a fraction, the result is exactly
-- that whole number, with the word's sign
abbrev pub IntegralLaw : (Direction → Float → Float) → Type 0
IntegralLaw rounding =
    (d : Direction) (a : ℕ) (s : Bool) (p c : ℕ) → 0 < c → HasValue (value a) s p c
    → (n : ℕ) × GoesTo d s p c n × HasValue (rounding d (value a)) s n 1

-- ---- MulAdd
-- a magnitude with its sign, as a whole number
abbrev pub signed : Bool → ℕ → ℤ
signed s n = cond s (neg_ℤ (pos n)) (pos n)

-- the fraction n / d rounded once; where it is zero, the zero with the sign s
abbrev pub round_signed : Bool → ℤ → ℕ → Float
round_signed s (pos zero) d = round binary64 s 0 d
round_signed s (pos (suc n)) d = round binary64 false (suc n) d
round_signed s (negsuc n) d = round binary64 true (suc n) d

-- Of finite values ±p / c, ±q / d and ±n / g, with the signs r, s and t, the exact value before rounding is p / c * (q / d) + n / g as a signed fraction.
-- A zero is -0 only where the product and the addend are both negative (6.3).
abbrev pub MulAddLaw : (Float → Float → Float → Float) → Type 0
MulAddLaw mul_add =
    (x y z : Float) (r s t : Bool) (p q n c d g : ℕ) → 0 < c → 0 < d → 0 < g → HasValue x r p c → HasValue y s q d → HasValue z t n g
    → mul_add x y z ≡ round_signed (unlike r s && t) (signed r p *ℤ signed s q *ℤ pos g +ℤ signed t n *ℤ pos (c * d)) (c * d * g)

-- ---- IfElse
-- bit i of a word, counted from the lowest
abbrev pub bit : ℕ → ℕ → ℕ
bit i a = a / 2 ^ i % 2

-- each bit of a word is chosen by the same bit of c
abbrev pub IfElseLaw : (ℕ → ℕ → ℕ → ℕ) → Type 0
IfElseLaw if_else = (i c t f : ℕ) → i < 64 → c < 2 ^ 64 → bit i (if_else c t f) ≡ cond (eqb (bit i c) 1) (bit i t) (bit i f)
