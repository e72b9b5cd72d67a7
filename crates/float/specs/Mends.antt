-- The steps of Root, to be followed on paper (02, k): "find a whole-number estimate from the leading part of the significand and mend it downwards or upwards,
-- in a proved eight steps at most, then round". `EightMends` and `RootByMends` are what is proved of them. Assumes nothing.
use Rattle.std.specs.Prelude.{◌≡◌, refl, cond, false, ℕ, ◌+◌, ◌-◌, ◌*◌, ◌/◌, ◌%◌, ◌^◌, ◌≤◌, ◌<◌, leb, ℤ}
use Rattle.float.specs.Laws.{IsWholeRoot}
use Rattle.float.specs.Biased.{biased}
use Rattle.float.specs.Unpacked.{Unpacked}

-- an estimate of a root, and how many mends it has had
pub record Estimate : Type 0 where
  pub value : ℕ
  pub mends : ℕ

-- "a whole-number estimate from the leading part of the significand": m has 53 or 54 binary digits, of which the lowest 28 are left out
abbrev pub estimate : ℕ → Estimate
estimate m = record { value = m / 2 ^ 28 + 27 * 2 ^ 21; mends = 0 }

-- the middle between u and n / u: below u where u is above n / u, and above u where it is below
abbrev pub middle : ℕ → ℕ → ℕ
middle n u = (u + n / u) / 2

-- "mend it downwards or upwards": Heron's mend of an estimate of the root of n
abbrev pub mend : ℕ → Estimate → Estimate
mend n u = record { value = middle n u.value; mends = u.mends + 1 }

-- no mend: 26 binary zeros behind an estimate of the root of m make it one of the root of m * 2 ^ 52
abbrev pub lengthen : Estimate → Estimate
lengthen u = record { value = u.value * 2 ^ 26; mends = u.mends }

-- 1 where the square of u is above n, else 0
abbrev pub above : ℕ → ℕ → ℕ
above n u = cond (leb (u * u) n) 0 1

-- the last mend: downwards by one unit where the square is above n; elsewhere there is none
abbrev pub last_mend : ℕ → Estimate → Estimate
last_mend n u = record { value = u.value - above n u.value; mends = u.mends + above n u.value }

-- the mends in their order: three of an estimate of 27 digits, one of 53 digits, and the last
unfoldable pub mended : ℕ → Estimate
mended m = last_mend (m * 2 ^ 52) (mend (m * 2 ^ 52) (lengthen (mend m (mend m (mend m (estimate m))))))

-- "in a proved eight steps at most": the mended estimate is the whole root of m * 2 ^ 52, after eight mends at most
abbrev pub EightMends : (ℕ → Estimate) → Type 0
EightMends steps = (m : ℕ) → 2 ^ 52 ≤ m → m < 2 ^ 54 → IsWholeRoot (m * 2 ^ 52) (steps m).value × ((steps m).mends ≤ 8)

-- "then round": up where m * 2 ^ 52 is above the square of q + 1 / 2, which is q * q + q + 1 / 4; it is never equal to it
unfoldable pub rounded : ℕ → ℕ
unfolding mended
rounded m = let q = (mended m).value in cond (leb (m * 2 ^ 52) (q * q + q)) q (q + 1)

-- These steps lead to Word's root of every positive and finite word, which is m * 2 ^ e with an m of 53 digits. Halving e, downwards, leaves its lowest digit to the
-- significand; half the count of e from -8192, less 3048, is the root's field less one, and the leading digit of the rounded root adds that one.
abbrev pub RootByMends : (ℕ → ℕ) → Type 0
RootByMends root =
    (a : ℕ) → 0 < a → a < 2047 * 2 ^ 52
    → (m : ℕ) × (e : ℤ) × Unpacked a false m e × (root a ≡ (biased e / 2 - 3048) * 2 ^ 52 + rounded (m * 2 ^ (biased e % 2)))

-- worked: for the root of 2, 90177536 is mended upwards to 95030248, then downwards to 94906346 and 94906265; with 26 digits more nothing is left to mend
pub of_two : mended (2 ^ 53) ≡ record { value = 6369051672525772; mends = 4 }
unfolding mended
of_two = refl

-- for the root of 5, 77594624 is mended downwards to 75072373, 75030002 and 75029990, and the last mend takes a unit from 5035177455121576
pub of_five : mended (5 * 2 ^ 50) ≡ record { value = 5035177455121575; mends = 5 }
unfolding mended
of_five = refl
