-- `float::pack::pack` meets its contract. e is a - 8192 for a natural number a, and each of the four ways out is a case of a (`RoundWord.antt`).
-- Assumes nothing.
use mathlib.Core.Path.{◌≡◌, refl, sym, ap, ap₂, ◌∙◌}
use mathlib.Core.Bool.{Bool, true, false, cond}
use Prim.Native.Nat.{ℕ, ◌+◌, ◌-◌, ◌*◌, ◌%◌, ◌^◌, ◌≤◌, ◌<◌, min}
use native.Mathlib.Nat.{add_assoc, mod-eq_of_lt, add-zero}
use native.Mathlib.Omega.{arith}
use lib.Dec.{T, lit≤}
use lib.IntN.{ℤ, pos, negsuc, nat_abs, ◌+ℤ◌, ◌-ℤ◌}
use lib.Signed.{mag, non_neg, lt_z}
use lib.Ieee.{binary64, to_bits, round, up, down}
use lib.Ieee.Nearest.{closest}
use borrow.Author.Rules.{rules}
use Rattle.float.specs.Biased.{biased}
use Rattle.float.proofs.RoundBits.{signed, infinite}
use Rattle.float.proofs.RoundWord.{round-word, round_pow, too_large, too_small, subnormal, normal, kept-le}
use Rattle.float.proofs.Signed.{Is, is_biased, is_pos, is_add, is_sub, is_shift, is_mag, is_lt, is_ge, is_nonneg, is_abs, read, is_read}
use Rattle.float.proofs.pack.pack.Statement.{statement}
use Rattle.float.proofs.pack.pack.Tie as tie

sign_le : (b : Bool) → cond b (2 ^ 63) 0 ≤ 2 ^ 63
sign_le true = lit≤ tt
sign_le false = lit≤ tt

module _ (e : ℤ) (small : mag e < 8192) where
  pub here : Is (read e) (biased e) 8192
  here = is_read e (biased e) 8192 (omega arith) (is_biased e small)

  -- -1074 - e, and e + 1084
  abbrev pub gap : ℤ
  gap = negsuc 1073 -ℤ read e

  pub gap_is : Is gap 8192 (1074 + biased e)
  gap_is = is_sub (negsuc 1073) (read e) 0 1074 (biased e) 8192 refl here

  abbrev pub rise : ℤ
  rise = read e +ℤ pos 1084

  pub rise-is : Is rise (biased e + 1084) 8192
  rise-is = is_shift rise (biased e + 1084) (8192 + 0) (biased e + 1084) 8192 (is_add (read e) (pos 1084) (biased e) 8192 1084 0 here (is_pos 1084)) (omega arith)

  bound : biased e < 16384
  bound = go e small
    where
      go : (z : ℤ) → mag z < 8192 → biased z < 16384
      go (pos n) h = omega arith
      go (negsuc n) h = omega arith

  pub gap-mag : mag gap < 2 ^ 31
  gap-mag = is_mag gap 8192 (1074 + biased e) (2 ^ 31) gap_is (omega arith) (omega (arith, bound))

  pub rise-mag : mag rise < 2 ^ 31
  rise-mag = is_mag rise (biased e + 1084) 8192 (2 ^ 31) rise-is (omega (arith, bound)) (omega arith)

  pub gap-abs : biased e ≤ 7118 → nat_abs (read gap) ≡ 7118 - biased e
  gap-abs h = is_abs (read gap) 8192 (1074 + biased e) (is_read gap 8192 (1074 + biased e) gap-mag gap_is) (omega arith) ∙ (omega arith)

  pub rise-abs : 7108 ≤ biased e → nat_abs (read rise) ≡ biased e - 7108
  rise-abs h = is_abs (read rise) (biased e + 1084) 8192 (is_read rise (biased e + 1084) 8192 rise-mag rise-is) (omega arith) ∙ (omega arith)

  pub gap-nonneg : biased e ≤ 7118 → T (non_neg (read gap))
  gap-nonneg h = is_nonneg (read gap) 8192 (1074 + biased e) (is_read gap 8192 (1074 + biased e) gap-mag gap_is) (omega arith)

  pub rise-nonneg : 7108 ≤ biased e → T (non_neg (read rise))
  rise-nonneg h = is_nonneg (read rise) (biased e + 1084) 8192 (is_read rise (biased e + 1084) 8192 rise-mag rise-is) (omega arith)

  -- the tests
  pub large : lt_z (pos 961) (read e) ≡ true → 9153 < biased e
  large t = omega (arith, is_lt (pos 961) (read e) 961 0 (biased e) 8192 (is_pos 961) here t)

  pub not-large : lt_z (pos 961) (read e) ≡ false → biased e ≤ 9153
  not-large t = omega (arith, is_ge (pos 961) (read e) 961 0 (biased e) 8192 (is_pos 961) here t)

  pub low : lt_z (read e) (negsuc 1136) ≡ true → biased e < 7055
  low t = omega (arith, is_lt (read e) (negsuc 1136) (biased e) 8192 0 1137 here refl t)

  pub not_low : lt_z (read e) (negsuc 1136) ≡ false → 7055 ≤ biased e
  not_low t = omega (arith, is_ge (read e) (negsuc 1136) (biased e) 8192 0 1137 here refl t)

  pub sub_low : lt_z (read e) (negsuc 1083) ≡ true → biased e < 7108
  sub_low t = omega (arith, is_lt (read e) (negsuc 1083) (biased e) 8192 0 1084 here refl t)

  pub not-sub : lt_z (read e) (negsuc 1083) ≡ false → 7108 ≤ biased e
  not-sub t = omega (arith, is_ge (read e) (negsuc 1083) (biased e) 8192 0 1084 here refl t)

-- the contract's word
word : (neg : Bool) (w : ℕ) (e : ℤ) → 2 ^ 62 ≤ w → w < 2 ^ 63 → mag e < 8192
    → to_bits binary64 (round binary64 neg (w * up e) (down e)) ≡ signed neg (min ((biased e + 1084 - 8192) * 2 ^ 52 + closest w (2 ^ (10 + (8192 - (biased e + 1084))))) infinite)
word neg w e lo hi small = ap (to_bits binary64) (round_pow neg w e (biased e) 8192 (is_biased e small)) ∙ round-word w (biased e) 8192 lo hi neg

sign-bit-requires : tie.Need-sign_bit-s-requires
sign-bit-requires c κs = search rules

add-result : tie.Need-overflow_add-result
add-result c = omega (arith, sign_le c.args.neg, c.sign_bit-s.ensures)

returns : tie.Need-returns-then-e-gt961
returns c =
    let s = c.before.before in
    let a = s.args in
    let l = large a.e s.requires.2 c.if-e-gt961.true in
    ap (λ (x : ℕ). x + infinite) c.sign_bit-s.ensures
    ∙ sym (word a.neg a.w a.e s.requires.0 s.requires.1 s.requires.2 ∙ ap (signed a.neg) (too_large a.w (biased a.e) s.requires.0 s.requires.1 l))

returns-2 : tie.Need-returns-then-e-ltminus1137
returns-2 c =
    let s = c.before.before.before in
    let a = s.args in
    let l = low a.e s.requires.2 c.if-e-ltminus1137.true in
    c.sign_bit-s.ensures
    ∙ sym (word a.neg a.w a.e s.requires.0 s.requires.1 s.requires.2 ∙ ap (signed a.neg) (too_small a.w (biased a.e) s.requires.0 s.requires.1 l) ∙ add-zero (cond a.neg (2 ^ 63) 0))

sub-nearest : tie.Need-overflow_sub-e
sub-nearest c = let s = c.before.before.before.before in record { sfits = gap-mag s.args.e s.requires.2 }

cast-nearest : tie.Need-overflow_cast-e
cast-nearest c =
    let s = c.before.before.before.before in
    let h = sub_low s.args.e s.requires.2 c.if-e-ltminus1084.true in
    (gap-nonneg s.args.e s.requires.2 (omega (arith, h)), record { fits = omega (arith, gap-abs s.args.e s.requires.2 (omega (arith, h))) })

nearest-requires : tie.Need-nearest-requires
nearest-requires c κs =
    let s = c.before.before.before.before in
    let h = sub_low s.args.e s.requires.2 c.if-e-ltminus1084.true in
    let g = not_low s.args.e s.requires.2 c.if-e-ltminus1137.false in
    let t = gap-abs s.args.e s.requires.2 (omega (arith, h)) in
    (s.requires.1, omega (arith, t, h), omega (arith, t, g))

add-result-2 : tie.Need-overflow_add-result-then-e-ltminus1084
add-result-2 c =
    let s = c.before.before.before.before.before in
    let h = sub_low s.args.e s.requires.2 c.if-e-ltminus1084.true in
    let t = gap-abs s.args.e s.requires.2 (omega (arith, h)) in
    let q = kept-le s.args.w (biased s.args.e) s.requires.0 s.requires.1 (nat_abs (read (gap s.args.e s.requires.2))) (omega (arith, t, h)) in
    omega (arith, q, c.nearest.ensures, sign_le s.args.neg, c.sign_bit-s.ensures)

returns-3 : tie.Need-returns-then-e-ltminus1084
returns-3 c =
    let s = c.before.before.before.before.before in
    let a = s.args in
    let h = sub_low a.e s.requires.2 c.if-e-ltminus1084.true in
    let t = gap-abs a.e s.requires.2 (omega (arith, h)) in
    ap₂ (λ (x y : ℕ). x + y) c.sign_bit-s.ensures c.nearest.ensures
    ∙ sym (word a.neg a.w a.e s.requires.0 s.requires.1 s.requires.2 ∙ ap (signed a.neg) (subnormal a.w (biased a.e) s.requires.0 s.requires.1 (nat_abs (read (gap a.e s.requires.2))) h t))

add-result-3 : tie.Need-overflow_add-result-2
add-result-3 c = let s = c.before.before.before.before in record { sfits = rise-mag s.args.e s.requires.2 }

cast-result : tie.Need-overflow_cast-result
cast-result c =
    let s = c.before.before.before.before in
    let h = not-sub s.args.e s.requires.2 c.if-e-ltminus1084.false in
    let g = not-large s.args.e s.requires.2 c.if-e-gt961.false in
    (rise-nonneg s.args.e s.requires.2 h, record { fits = omega (arith, rise-abs s.args.e s.requires.2 h, g) })

-- the exponent's field
field : (e : ℤ) (small : mag e < 8192) → 7108 ≤ biased e → biased e ≤ 9153 → nat_abs (read (rise e small)) * 2 ^ 52 % 2 ^ 64 ≡ (biased e - 7108) * 2 ^ 52
field e small h g = ap (λ (k : ℕ). k * 2 ^ 52 % 2 ^ 64) (rise-abs e small h) ∙ mod-eq_of_lt (omega arith)

add-result-4 : tie.Need-overflow_add-result-3
add-result-4 c =
    let s = c.before.before.before.before in
    let h = not-sub s.args.e s.requires.2 c.if-e-ltminus1084.false in
    let g = not-large s.args.e s.requires.2 c.if-e-gt961.false in
    omega (arith, field s.args.e s.requires.2 h g, g, sign_le s.args.neg, c.sign_bit-s.ensures)

nearest-requires-2 : tie.Need-nearest-requires-2
nearest-requires-2 c κs = search rules

add-result-5 : tie.Need-overflow_add-result-4
add-result-5 c =
    let s = c.before.before.before.before.before in
    let a = s.args in
    let h = not-sub a.e s.requires.2 c.if-e-ltminus1084.false in
    let g = not-large a.e s.requires.2 c.if-e-gt961.false in
    let n = normal a.w (biased a.e) s.requires.0 s.requires.1 (biased a.e - 7108) g h refl in
    omega (arith, field a.e s.requires.2 h g, n.0, c.nearest-2.ensures, sign_le a.neg, c.sign_bit-s.ensures)

returns-4 : tie.Need-returns
returns-4 c =
    let s = c.before.before.before.before.before in
    let a = s.args in
    let h = not-sub a.e s.requires.2 c.if-e-ltminus1084.false in
    let g = not-large a.e s.requires.2 c.if-e-gt961.false in
    let n = normal a.w (biased a.e) s.requires.0 s.requires.1 (biased a.e - 7108) g h refl in
    ap₂ (λ (x y : ℕ). x + y) (ap₂ (λ (x y : ℕ). x + y) c.sign_bit-s.ensures (field a.e s.requires.2 h g)) c.nearest-2.ensures
    ∙ add_assoc (cond a.neg (2 ^ 63) 0) ((biased a.e - 7108) * 2 ^ 52) (closest a.w (2 ^ 10))
    ∙ sym (word a.neg a.w a.e s.requires.0 s.requires.1 s.requires.2 ∙ ap (signed a.neg) n.1)

pub pack_spec : {M : Type 1} → statement M
pack_spec =
    tie.close
    (tie.spec
    sign-bit-requires
    add-result
    returns
    returns-2
    sub-nearest
    cast-nearest
    nearest-requires
    add-result-2
    returns-3
    add-result-3
    cast-result
    add-result-4
    nearest-requires-2
    add-result-5
    returns-4)
