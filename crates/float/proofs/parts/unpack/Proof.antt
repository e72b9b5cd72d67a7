-- `float::parts::unpack` meets its contract (`Fields.antt`). Assumes nothing.
use mathlib.Core.Path.{◌≡◌, refl, sym, ap, ◌∙◌, subst}
use Prim.Native.Nat.{ℕ, zero, suc, ◌+◌, ◌-◌, ◌*◌, ◌/◌, ◌%◌, ◌^◌, ◌≤◌, ◌<◌}
use native.Mathlib.Nat.{mod-lt, mod-eq_of_lt}
use native.Mathlib.Omega.{arith}
use lib.Dec.{leb, lit<}
use lib.IntN.{ℤ, pos, negsuc, ◌-ℤ◌}
use lib.Signed.{mag}
use lib.Count.{count_leading_zeros}
use lib.Bits.{bit_and, and_mask}
use mir.Syntax.{w32}
use mir.Val.{to_z}
use Rattle.float.specs.Unpacked.{Unpacked}
use Rattle.float.proofs.Signed.{Is, is_pos, is_sub, is_shift, is_mag, read, is_read}
use Rattle.float.proofs.Fields.{unpacked_sub, unpacked_normal, lifted, together}
use Rattle.float.proofs.parts.unpack.Statement.{statement}
use Rattle.float.proofs.parts.unpack.Tie as tie

abbrev Fine : ℕ → Type 0
Fine a = (0 < a % 2 ^ 63) × (a % 2 ^ 63 < 2047 * 2 ^ 52)

-- the digits' field, and the exponent's, as the program has them
abbrev frac : ℕ → ℕ
frac a = bit_and a (2 ^ 52 - 1)

abbrev expo : ℕ → ℕ
expo a = bit_and (a / 2 ^ 52) 2047

frac-is : (a : ℕ) → frac a ≡ a % 2 ^ 52
frac-is a = and_mask a 52

expo-is : (a : ℕ) → expo a ≡ a / 2 ^ 52 % 2 ^ 11
expo-is a = and_mask (a / 2 ^ 52) 11

module _ (a : ℕ) (fine : Fine a) (z0 : expo a ≡ 0) where
  pub up_by : (z : ℕ) × (count_leading_zeros 64 (frac a) + 52 ≡ 63 + z) × (z ≤ 52) × (2 ^ 52 ≤ frac a * 2 ^ z) × (frac a * 2 ^ z < 2 ^ 53)
  up_by =
      let e : a / 2 ^ 52 % 2 ^ 11 ≡ 0 = sym (expo-is a) ∙ z0 in
      lifted 52 (frac a) (lit< tt) (omega (arith, fine.0, together a, e, frac-is a)) (omega (arith, frac-is a, mod-lt a {m = 2 ^ 52} (lit< tt)))

  -- the shift, as the program computes it
  abbrev pub shift : ℕ
  shift = count_leading_zeros 64 (frac a) - 11

  pub shift_is : shift ≡ up_by.0
  shift_is = let u = up_by in omega (arith, u.1)

  abbrev pub exponent : ℤ
  exponent = negsuc 1073 -ℤ to_z w32 shift

  pub exponent-is : Is exponent 0 (1074 + shift)
  exponent-is =
      let u = up_by in
      let s = shift_is in
      is_shift exponent 0 (1074 + shift) 0 (1074 + shift)
      (is_sub (negsuc 1073) (to_z w32 shift) 0 1074 shift 0 refl (is_read (pos shift) shift 0 (omega (arith, u.2, s)) (is_pos shift))) refl

  pub exponent-mag : mag exponent < 2 ^ 31
  exponent-mag = let u = up_by in let s = shift_is in is_mag exponent 0 (1074 + shift) (2 ^ 31) exponent-is (omega arith) (omega (arith, u.2, s))

  pub sub-result : Unpacked a (leb (2 ^ 63) a) (frac a * 2 ^ shift % 2 ^ 64) (read exponent)
  sub-result =
      let u = up_by in
      let s = shift_is in
      let f = frac-is a in
      let lo : 2 ^ 52 ≤ frac a * 2 ^ shift = subst (λ (x : ℕ). 2 ^ 52 ≤ frac a * 2 ^ x) (sym s) u.3 in
      let hi : frac a * 2 ^ shift < 2 ^ 53 = subst (λ (x : ℕ). frac a * 2 ^ x < 2 ^ 53) (sym s) u.4 in
      let m : frac a * 2 ^ shift % 2 ^ 64 ≡ a % 2 ^ 52 * 2 ^ shift = mod-eq_of_lt (omega (arith, hi)) ∙ ap (λ (x : ℕ). x * 2 ^ shift) f in
      subst (λ (x : ℕ). Unpacked a (leb (2 ^ 63) a) x (read exponent)) (sym m)
      (unpacked_sub a shift (read exponent) (sym (expo-is a) ∙ z0) (omega (arith, u.2, s))
      (subst (λ (x : ℕ). 2 ^ 52 ≤ x * 2 ^ shift) f lo) (subst (λ (x : ℕ). x * 2 ^ shift < 2 ^ 53) f hi)
      (is_read exponent 0 (1074 + shift) exponent-mag exponent-is))

sub-z : tie.Need-overflow_sub-z
sub-z c = omega (arith, (up_by c.args.a c.requires c.if-x-eq0.true).1)

cast-t10 : tie.Need-overflow_cast-result
cast-t10 c = let a = c.args.a in let u = up_by a c.requires c.if-x-eq0.true in record { fits = omega (arith, u.1, u.2) }

shl-t11 : tie.Need-overflow_shl-result
shl-t11 c = let a = c.args.a in let u = up_by a c.requires c.if-x-eq0.true in omega (arith, u.1, u.2)

cast-t12 : tie.Need-overflow_cast-result-then-x-eq0
cast-t12 c = let a = c.args.a in let u = up_by a c.requires c.if-x-eq0.true in record { sfits = omega (arith, u.1, u.2) }

sub-t13 : tie.Need-overflow_sub-result
sub-t13 c = record { sfits = exponent-mag c.args.a c.requires c.if-x-eq0.true }

add-t14 : tie.Need-overflow_add-result
add-t14 c = let a = c.args.a in record { fits = omega (arith, frac-is a, mod-lt a {m = 2 ^ 52} (lit< tt)) }

module _ (a : ℕ) where
  pub expo-lt : expo a < 2 ^ 11
  expo-lt = omega (arith, expo-is a, mod-lt (a / 2 ^ 52) {m = 2 ^ 11} (lit< tt))

  abbrev pub power : ℤ
  power = to_z w32 (expo a) -ℤ pos 1075

  pub power-is : Is power (expo a) 1075
  power-is =
      is_shift power (expo a + 0) (0 + 1075) (expo a) 1075
      (is_sub (to_z w32 (expo a)) (pos 1075) (expo a) 0 1075 0 (is_read (pos (expo a)) (expo a) 0 (omega (arith, expo-lt)) (is_pos (expo a))) (is_pos 1075)) (omega arith)

  pub power-mag : mag power < 2 ^ 31
  power-mag = is_mag power (expo a) 1075 (2 ^ 31) power-is (omega (arith, expo-lt)) (omega arith)

  pub normal-result : (x : ℕ) → expo a ≡ x → Fine a → (expo a ≡ 0 → ⊥) → Unpacked a (leb (2 ^ 63) a) (frac a + 2 ^ 52) (read power)
  normal-result zero e fine n = absurd (n e)
  normal-result (suc x) e fine n =
      let h : a / 2 ^ 52 % 2 ^ 11 ≡ suc x = sym (expo-is a) ∙ e in
      subst (λ (y : ℕ). Unpacked a (leb (2 ^ 63) a) (y + 2 ^ 52) (read power)) (sym (frac-is a))
      (unpacked_normal a x (read power) h (omega (arith, fine.1, together a, h))
      (is_read power (suc x) 1075 power-mag (subst (λ (y : ℕ). Is power y 1075) e power-is)))

cast-t15 : tie.Need-overflow_cast-result-else-x-eq0
cast-t15 c = record { sfits = omega (arith, expo-lt c.args.a) }

sub-t16 : tie.Need-overflow_sub-result-else-x-eq0
sub-t16 c = record { sfits = power-mag c.args.a }

returns : tie.Need-returns-then-x-eq0
returns c = sub-result c.args.a c.requires c.if-x-eq0.true

returns-2 : tie.Need-returns-else-x-eq0
returns-2 c = let a = c.args.a in normal-result a (expo a) refl c.requires c.if-x-eq0.false

pub unpack_spec : {M : Type 1} → statement M
unpack_spec =
    tie.close
    (tie.spec sub-z cast-t10 shl-t11 cast-t12 sub-t13 add-t14 cast-t15 sub-t16 returns returns-2)
