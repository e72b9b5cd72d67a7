-- What `unpack` finds in a word that is finite and not zero. Assumes nothing.
use Rattle.std.specs.Prelude.{◌≡◌, Bool, leb, ℕ, ◌+◌, ◌*◌, ◌/◌, ◌%◌, ◌^◌, ◌≤◌, ◌<◌, ℤ}
use Rattle.std.specs.Int.Signed.{mag}
use Rattle.std.specs.Float.{binary64}
use Rattle.std.specs.Float.Ieee.{of_bits, up, down}
use Rattle.std.specs.Float.Ieee.Exact.{HasValue}
use Rattle.float.specs.Biased.{biased}

-- the word's value is m * 2 ^ e with the sign neg, and m has 53 binary digits
pub record Unpacked (a : ℕ) (neg : Bool) (m : ℕ) (e : ℤ) : Type 0 where
  pub sign : neg ≡ leb (2 ^ 63) a
  pub value : HasValue (of_bits binary64 a) neg (m * up e) (down e)
  pub lo : 2 ^ 52 ≤ m
  pub hi : m < 2 ^ 53
  pub small : mag e < 1200
  pub place : biased e ≤ 7118 + a % 2 ^ 63 / 2 ^ 52

-- a significand of 53 binary digits, and an exponent in a word's range
pub record Normalized (m : ℕ) (e : ℤ) : Type 0 where
  pub lo : 2 ^ 52 ≤ m
  pub hi : m < 2 ^ 53
  pub small : mag e < 1200
