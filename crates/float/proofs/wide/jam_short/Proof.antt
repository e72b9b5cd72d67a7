-- `float::wide::jam_short` meets its contract: the upper word's digits are an even number of units (`near-more`). Assumes nothing.
use mathlib.Core.Path.{◌≡◌, sym, ap, ◌∙◌, subst₂}
use mathlib.Core.Logic.{inl, inr}
use Prim.Native.Nat.{ℕ, suc, ◌+◌, ◌-◌, ◌*◌, ◌/◌, ◌%◌, ◌^◌, ◌≤◌, ◌<◌}
use native.Mathlib.Nat.{le_trans, le_of_eq, mod-lt, div-add-mod', mul-le-mul_right, lt_of_mul-lt-mul_right, mul_comm, pow-succ'}
use native.Mathlib.Omega.{arith}
use lib.Pow.{pow_pos, pow-add}
use borrow.Author.Rules.{rules}
use Rattle.float.specs.Near.{Near, both}
use Rattle.float.proofs.Sticky.{near_more}
use Rattle.float.proofs.wide.jam_short.Statement.{statement}
use Rattle.float.proofs.wide.jam_short.Tie as tie

jam-requires : tie.Need-jam-lo-requires
jam-requires c κs = search rules

low-digits-requires : tie.Need-low_digits-requires
low-digits-requires c κs = search rules

sub-pow2 : tie.Need-overflow_sub-d
sub-pow2 c = search rules

pow2-requires : tie.Need-pow2-requires
pow2-requires c κs = search rules

module _ (hi lo d l : ℕ) (p : 0 < d) (s : d < 64) (h : lo < 2 ^ 64) (n : Near lo l (2 ^ d)) where
  -- the place of the upper word's lower digits is an even one
  even_place : 2 ^ (64 - d) ≡ 2 * 2 ^ (63 - d)
  even_place = ap (λ (z : ℕ). 2 ^ z) {x = 64 - d} {y = suc (63 - d)} (omega arith) ∙ pow-succ' 2 (63 - d)

  whole_word : 2 ^ (64 - d) * 2 ^ d ≡ 2 ^ 64
  whole_word = sym (pow-add 2 (64 - d) d) ∙ ap (λ (z : ℕ). 2 ^ z) {x = 64 - d + d} {y = 64} (omega arith)

  mid_le : (hi % 2 ^ d + 1) * 2 ^ (64 - d) ≤ 2 ^ 64
  mid_le =
      le_trans (mul-le-mul_right {m = hi % 2 ^ d + 1} {n = 2 ^ d} (2 ^ (64 - d)) (omega (arith, mod-lt hi (pow_pos d))))
      (le_of_eq (mul_comm (2 ^ d) (2 ^ (64 - d)) ∙ whole_word))

  pub mid-fits : hi % 2 ^ d * 2 ^ (64 - d) < 2 ^ 64
  mid-fits = omega (arith, mid_le, pow_pos (64 - d))

  low-lt : l < 2 ^ (64 - d)
  low-lt = go n
    where
      go : Near lo l (2 ^ d) → l < 2 ^ (64 - d)
      go (inl e) = lt_of_mul-lt-mul_right (2 ^ d) (omega (arith, e, whole_word))
      go (inr m) =
          let a : l * 2 ^ d < (2 ^ (64 - d) + 1) * 2 ^ d = omega (arith, m.1, whole_word) in
          odd-lt l (2 ^ (64 - d)) (2 ^ (63 - d)) (lt_of_mul-lt-mul_right (2 ^ d) a) m.0 even_place
        where
          odd-lt : (l a b : ℕ) → l < a + 1 → l % 2 ≡ 1 → a ≡ 2 * b → l < a
          odd-lt l a b h o e = omega arith

  pub sum_fits : hi % 2 ^ d * 2 ^ (64 - d) + l < 2 ^ 64
  sum_fits = omega (arith, mid_le, low-lt)

  pub shifted : Near (both hi lo) (both (hi / 2 ^ d) (hi % 2 ^ d * 2 ^ (64 - d) + l)) (2 ^ d)
  shifted =
      let a = hi / 2 ^ d in
      let m = hi % 2 ^ d in
      let k = a * 2 ^ 63 + m * 2 ^ (63 - d) in
      let k-is : 2 * k ≡ a * 2 ^ 64 + m * 2 ^ (64 - d) = double a m (2 ^ (63 - d)) (2 ^ (64 - d)) even_place in
      let x-is : 2 * k * 2 ^ d + lo ≡ both hi lo =
      ap (λ (z : ℕ). z * 2 ^ d + lo) k-is ∙ spread a m (2 ^ (64 - d)) (2 ^ d) whole_word ∙ ap (λ (z : ℕ). z * 2 ^ 64 + lo) (div-add-mod' hi (2 ^ d)) in
      let w-is : 2 * k + l ≡ both a (m * 2 ^ (64 - d) + l) = ap (λ (z : ℕ). z + l) k-is ∙ omega arith in
      subst₂ (λ (x w : ℕ). Near x w (2 ^ d)) x-is w-is (near_more lo l (2 ^ d) k n)
    where
      double : (a m q r : ℕ) → r ≡ 2 * q → 2 * (a * 2 ^ 63 + m * q) ≡ a * 2 ^ 64 + m * r
      double a m q r e = half a m q ∙ ap (λ (z : ℕ). a * 2 ^ 64 + m * z) (sym e)
        where
          half : (a m q : ℕ) → 2 * (a * 2 ^ 63 + m * q) ≡ a * 2 ^ 64 + m * (2 * q)
          half a m q = omega arith

      spread : (a m r u : ℕ) → r * u ≡ 2 ^ 64 → (a * 2 ^ 64 + m * r) * u + lo ≡ (a * u + m) * 2 ^ 64 + lo
      spread a m r u e = one ∙ ap (λ (z : ℕ). a * u * 2 ^ 64 + m * z + lo) e ∙ two
        where
          one : (a * 2 ^ 64 + m * r) * u + lo ≡ a * u * 2 ^ 64 + m * (r * u) + lo
          one = omega arith

          two : a * u * 2 ^ 64 + m * 2 ^ 64 + lo ≡ (a * u + m) * 2 ^ 64 + lo
          two = omega arith

mul-mid : tie.Need-overflow_mul-mid
mul-mid c =
    let s = c.before.before.before in
    let v = s.args.v in
    let l : v.lo < 2 ^ 64 = omega (arith, s.well_formed) in
    record {
      fits =
          subst₂ (λ (x y : ℕ). x * y < 2 ^ 64) (sym c.low_digits.ensures) (sym c.pow2.ensures)
          (mid-fits v.hi v.lo s.args.d c.jam-lo.result s.requires.0 s.requires.1 l c.jam-lo.ensures);
    }

shr-t6 : tie.Need-overflow_shr-result
shr-t6 c = search rules

add-t8 : tie.Need-overflow_add-result
add-t8 c =
    let s = c.before.before.before.before in
    let v = s.args.v in
    let l : v.lo < 2 ^ 64 = omega (arith, s.well_formed) in
    record {
      fits =
          subst₂ (λ (x y : ℕ). x * y + c.jam-lo.result < 2 ^ 64) (sym c.low_digits.ensures) (sym c.pow2.ensures)
          (sum_fits v.hi v.lo s.args.d c.jam-lo.result s.requires.0 s.requires.1 l c.jam-lo.ensures);
    }

returns : tie.Need-returns
returns c =
    let s = c.before.before.before.before in
    let v = s.args.v in
    let l : v.lo < 2 ^ 64 = omega (arith, s.well_formed) in
    subst₂ (λ (x y : ℕ). Near (both v.hi v.lo) (both (v.hi / 2 ^ s.args.d) (x * y + c.jam-lo.result)) (2 ^ s.args.d)) (sym c.low_digits.ensures) (sym c.pow2.ensures)
    (shifted v.hi v.lo s.args.d c.jam-lo.result s.requires.0 s.requires.1 l c.jam-lo.ensures)

pub jam_short_spec : {M : Type 1} → statement M
jam_short_spec =
    tie.close
    (tie.spec jam-requires low-digits-requires sub-pow2 pow2-requires mul-mid shr-t6 add-t8 returns)
