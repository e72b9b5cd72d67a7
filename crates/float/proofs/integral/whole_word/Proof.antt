-- `float::integral::whole_word` meets its contract. Assumes nothing.
use mathlib.Core.Path.{◌≡◌, refl, sym, ap, ◌∙◌, subst}
use mathlib.Core.Bool.{Bool, true, false, cond}
use Prim.Native.Nat.{ℕ, ◌+◌, ◌-◌, ◌*◌, ◌%◌, ◌^◌, ◌≤◌, ◌<◌}
use native.Mathlib.Nat.{mod-eq_of_lt, mul_assoc, mul_comm, mul-one, one-mul}
use native.Mathlib.Omega.{arith}
use lib.Dec.{lit<}
use lib.Count.{count_leading_zeros}
use lib.IntN.{ℤ, pos, ◌-ℤ◌}
use lib.Signed.{mag}
use mir.Syntax.{w32}
use mir.Val.{to_z}
use lib.Ieee.{binary64, round, to_bits, up, down}
use lib.Ieee.Fits.{down_pos}
use lib.Ieee.Scale.{round_same}
use borrow.Author.Rules.{rules}
use Rattle.float.proofs.Fields.{lifted}
use Rattle.float.proofs.Signed.{Is, is_pos, is_sub, is_shift, is_mag, is_pow, read, is_read}
use Rattle.float.proofs.integral.whole_word.Statement.{statement}
use Rattle.float.proofs.integral.whole_word.Tie as tie

zero_word : (s : Bool) → cond s (2 ^ 63) 0 ≡ to_bits binary64 (round binary64 s 0 1)
unfolding to_bits round
zero_word true = refl
zero_word false = refl

module _ (n : ℕ) (p : 0 < n) (h : n ≤ 2 ^ 53) where
  pub found : (z : ℕ) × (count_leading_zeros 64 n + 62 ≡ 63 + z) × (z ≤ 62) × (2 ^ 62 ≤ n * 2 ^ z) × (n * 2 ^ z < 2 ^ 63)
  found = lifted 62 n (lit< tt) p (omega arith)

  abbrev pub shift : ℕ
  shift = count_leading_zeros 64 n - 1

  pub shift_is : shift ≡ found.0
  shift_is = let f = found in omega (arith, f.1)

  pub shift_le : shift ≤ 62
  shift_le = let f = found in omega (arith, shift_is, f.2)

  pub word-is : n * 2 ^ shift % 2 ^ 64 ≡ n * 2 ^ shift
  word-is = let f = found in mod-eq_of_lt (omega (arith, subst (λ (x : ℕ). n * 2 ^ x < 2 ^ 63) (sym shift_is) f.4))

  pub word-lo : 2 ^ 62 ≤ n * 2 ^ shift % 2 ^ 64
  word-lo = omega (arith, word-is, subst (λ (x : ℕ). 2 ^ 62 ≤ n * 2 ^ x) (sym shift_is) found.3)

  pub word-hi : n * 2 ^ shift % 2 ^ 64 < 2 ^ 63
  word-hi = omega (arith, word-is, subst (λ (x : ℕ). n * 2 ^ x < 2 ^ 63) (sym shift_is) found.4)

  abbrev pub exponent : ℤ
  exponent = pos 0 -ℤ to_z w32 shift

  pub exponent-is : Is exponent 0 shift
  exponent-is =
      is_shift exponent (0 + 0) (0 + shift) 0 shift
      (is_sub (pos 0) (to_z w32 shift) 0 0 shift 0 (is_pos 0) (is_read (pos shift) shift 0 (omega (arith, shift_le)) (is_pos shift))) (omega arith)

  pub exponent-mag : mag exponent < 8192
  exponent-mag = is_mag exponent 0 shift 8192 exponent-is (omega arith) (omega (arith, shift_le))

  pub read_is : Is (read exponent) 0 shift
  read_is = is_read exponent 0 shift (omega (arith, exponent-mag)) exponent-is

  pub same-value : (s : Bool) → round binary64 s (n * 2 ^ shift % 2 ^ 64 * up (read exponent)) (down (read exponent)) ≡ round binary64 s n 1
  same-value s =
      let z = read exponent in
      round_same binary64 s (n * 2 ^ shift % 2 ^ 64 * up z) (down z) n 1 (down_pos z) (lit< tt)
      (mul-one (n * 2 ^ shift % 2 ^ 64 * up z)
      ∙ ap (λ (x : ℕ). x * up z) word-is
      ∙ mul_assoc n (2 ^ shift) (up z)
      ∙ ap (λ (x : ℕ). n * x) (mul_comm (2 ^ shift) (up z) ∙ is_pow z 0 shift read_is ∙ one-mul (down z)))

sign-bit-requires : tie.Need-sign_bit-requires
sign-bit-requires c κs = search rules

returns : tie.Need-returns-then-n-eq0
returns c =
    let a = c.args in
    c.sign_bit.ensures ∙ zero_word a.neg ∙ ap (λ (n : ℕ). to_bits binary64 (round binary64 a.neg n 1)) (sym c.if-n-eq0.true)

some : (n : ℕ) → (n ≡ 0 → ⊥) → 0 < n
some n h = omega (arith, h)

sub-z : tie.Need-overflow_sub-z
sub-z c = let s = c.before in omega (arith, (found s.args.n (some s.args.n c.if-n-eq0.false) s.requires).1)

cast-pack : tie.Need-overflow_cast-z
cast-pack c = let s = c.before in record { fits = omega (arith, shift_le s.args.n (some s.args.n c.if-n-eq0.false) s.requires) }

shl-pack : tie.Need-overflow_shl-n
shl-pack c = let s = c.before in omega (arith, shift_le s.args.n (some s.args.n c.if-n-eq0.false) s.requires)

cast-pack-2 : tie.Need-overflow_cast-z-2
cast-pack-2 c = let s = c.before in record { sfits = omega (arith, shift_le s.args.n (some s.args.n c.if-n-eq0.false) s.requires) }

sub-pack : tie.Need-overflow_sub-z-2
sub-pack c = let s = c.before in record { sfits = omega (arith, exponent-mag s.args.n (some s.args.n c.if-n-eq0.false) s.requires) }

pack-requires : tie.Need-pack-requires
pack-requires c κs =
    let s = c.before in
    let n = s.args.n in
    let p = some n c.if-n-eq0.false in
    (word-lo n p s.requires, word-hi n p s.requires, is_mag (read (exponent n p s.requires)) 0 (shift n p s.requires) 8192 (read_is n p s.requires) (omega arith) (omega (arith, shift_le n p s.requires)))

returns-2 : tie.Need-returns
returns-2 c =
    let s = c.before.before in
    let n = s.args.n in
    c.pack.ensures ∙ ap (to_bits binary64) (same-value n (some n c.if-n-eq0.false) s.requires s.args.neg)

pub whole_word_spec : {M : Type 1} → statement M
whole_word_spec =
    tie.close
    (tie.spec sign-bit-requires returns sub-z cast-pack shl-pack cast-pack-2 sub-pack pack-requires returns-2)
