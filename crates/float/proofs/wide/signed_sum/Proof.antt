-- `float::wide::signed_sum` meets its contract (`Sums.antt`). Assumes nothing.
use mathlib.Core.Path.{◌≡◌, sym, ap, ◌∙◌}
use mathlib.Core.Bool.{Bool, true, false, beq}
use Prim.Native.Nat.{ℕ, ◌+◌, ◌-◌, ◌*◌, ◌<◌}
use native.Mathlib.Nat.{mul-lt-mul_of_pos_right, add-mul, le_antisymm}
use native.Mathlib.Omega.{arith}
use lib.IntN.{ℤ}
use lib.Signed.{mag}
use lib.Ieee.{binary64, to_bits, round, sum, up, down}
use lib.Ieee.Fits.{up_pos, down_pos}
use borrow.Author.Rules.{rules}
use borrow.Author.Tests.{ltb-true, ltb-false}
use Rattle.float.specs.Near.{both}
use Rattle.float.proofs.Signed.{read, same, handed}
use Rattle.float.proofs.Sums.{sum_like, sum_less, sum_more, sum-none, zero_bits}
use Rattle.float.proofs.wide.signed_sum.Statement.{statement}
use Rattle.float.proofs.wide.signed_sum.Tie as tie

module _ (s t : Bool) (a b : ℕ) (e : ℤ) (small : mag e < 4000) where
  target : ℕ
  target = to_bits binary64 (sum binary64 s (a * up e) t (b * up e) (down e))

  there : (u : Bool) (n : ℕ) → to_bits binary64 (round binary64 u (n * up (read e)) (down (read e))) ≡ to_bits binary64 (round binary64 u (n * up e) (down e))
  there u n = ap (λ (z : ℤ). to_bits binary64 (round binary64 u (n * up z) (down z))) (same e 4000 small (omega arith))

  pub like : (n r : ℕ) → beq s t ≡ true → n ≡ a + b → r ≡ to_bits binary64 (round binary64 s (n * up (read e)) (down (read e)))
      → r ≡ to_bits binary64 (sum binary64 s (a * up e) t (b * up e) (down e))
  like n r q is k =
      k ∙ there s n
      ∙ ap (λ (x : ℕ). to_bits binary64 (round binary64 s x (down e))) (ap (λ (x : ℕ). x * up e) is ∙ add-mul a b (up e))
      ∙ sym (ap (to_bits binary64) (sum_like s t (a * up e) (b * up e) (down e) q))

  apart : (x y n : ℕ) → n + x ≡ y → n * up e ≡ y * up e - x * up e
  apart x y n h = let k : n * up e + x * up e ≡ y * up e = sym (add-mul n x (up e)) ∙ ap (λ (z : ℕ). z * up e) h in omega (arith, k)

  pub less : (n r : ℕ) → beq s t ≡ false → a < b → n + a ≡ b → r ≡ to_bits binary64 (round binary64 t (n * up (read e)) (down (read e)))
      → r ≡ to_bits binary64 (sum binary64 s (a * up e) t (b * up e) (down e))
  less n r q l is k =
      k ∙ there t n
      ∙ ap (λ (x : ℕ). to_bits binary64 (round binary64 t x (down e))) (apart a b n is)
      ∙ sym (ap (to_bits binary64) (sum_less s t (a * up e) (b * up e) (down e) q (mul-lt-mul_of_pos_right l (up_pos e))))

  pub more : (n r : ℕ) → beq s t ≡ false → b < a → n + b ≡ a → r ≡ to_bits binary64 (round binary64 s (n * up (read e)) (down (read e)))
      → r ≡ to_bits binary64 (sum binary64 s (a * up e) t (b * up e) (down e))
  more n r q l is k =
      k ∙ there s n
      ∙ ap (λ (x : ℕ). to_bits binary64 (round binary64 s x (down e))) (apart b a n is)
      ∙ sym (ap (to_bits binary64) (sum_more s t (a * up e) (b * up e) (down e) q (mul-lt-mul_of_pos_right l (up_pos e))))

  pub none : beq s t ≡ false → a ≡ b → 0 ≡ to_bits binary64 (sum binary64 s (a * up e) t (b * up e) (down e))
  none q is = sym (ap (to_bits binary64) (sum-none s t (a * up e) (b * up e) (down e) q (ap (λ (x : ℕ). x * up e) is)) ∙ zero_bits (down e) (down_pos e))

wide-add-requires : tie.Need-wide_add-requires
wide-add-requires c κs = search rules

round-wide-requires : tie.Need-round_wide-requires
round-wide-requires c κs =
    let s = c.before.before in
    (omega (arith, c.wide_add.ensures, s.requires.0), handed s.args.e 4000 s.requires.3 (omega arith))

returns : tie.Need-returns-then-s-t
returns c =
    let s = c.before.before.before in
    let x = s.args in
    let w = c.wide_add in
    like x.s x.t (both x.a.hi x.a.lo) (both x.b.hi x.b.lo) x.e s.requires.3 (both w.result.hi w.result.lo) c.round_wide.result c.if-s-t.true w.ensures c.round_wide.ensures

wide-less-requires : tie.Need-wide_less-requires
wide-less-requires c κs = search rules

wide-sub-requires : tie.Need-wide_sub-requires
wide-sub-requires c κs =
    let x = c.args in
    let l = ltb-true (both x.a.hi x.a.lo) (both x.b.hi x.b.lo) (sym c.wide_less.ensures ∙ c.if-wide_less.true) in
    omega (arith, l)

round-wide-requires-2 : tie.Need-round_wide-requires-then-wide_less
round-wide-requires-2 c κs =
    let s = c.before.before.before.before in
    let x = s.args in
    let l = ltb-true (both x.a.hi x.a.lo) (both x.b.hi x.b.lo) (sym c.wide_less.ensures ∙ c.if-wide_less.true) in
    (omega (arith, c.wide_sub.ensures, l), handed x.e 4000 s.requires.3 (omega arith))

returns-2 : tie.Need-returns-then-wide_less
returns-2 c =
    let s = c.before.before.before.before.before in
    let x = s.args in
    let w = c.wide_sub in
    let l = ltb-true (both x.a.hi x.a.lo) (both x.b.hi x.b.lo) (sym c.wide_less.ensures ∙ c.if-wide_less.true) in
    less x.s x.t (both x.a.hi x.a.lo) (both x.b.hi x.b.lo) x.e s.requires.3 (both w.result.hi w.result.lo) c.round_wide-then-wide_less.result c.if-s-t.false l w.ensures c.round_wide-then-wide_less.ensures

wide-less-requires-2 : tie.Need-wide_less-requires-2
wide-less-requires-2 c κs = search rules

wide-sub-requires-2 : tie.Need-wide_sub-requires-then-wide_less-2
wide-sub-requires-2 c κs =
    let x = c.args in
    let l = ltb-true (both x.b.hi x.b.lo) (both x.a.hi x.a.lo) (sym c.wide_less-2.ensures ∙ c.if-wide_less-2.true) in
    omega (arith, l)

round-wide-requires-3 : tie.Need-round_wide-requires-then-wide_less-2
round-wide-requires-3 c κs =
    let s = c.before.before.before.before.before.before in
    let x = s.args in
    let l = ltb-true (both x.b.hi x.b.lo) (both x.a.hi x.a.lo) (sym c.wide_less-2.ensures ∙ c.if-wide_less-2.true) in
    (omega (arith, c.wide_sub-then-wide_less-2.ensures, l), handed x.e 4000 s.requires.3 (omega arith))

returns-3 : tie.Need-returns-then-wide_less-2
returns-3 c =
    let s = c.before.before.before.before.before.before.before in
    let x = s.args in
    let w = c.wide_sub-then-wide_less-2 in
    let l = ltb-true (both x.b.hi x.b.lo) (both x.a.hi x.a.lo) (sym c.wide_less-2.ensures ∙ c.if-wide_less-2.true) in
    more x.s x.t (both x.a.hi x.a.lo) (both x.b.hi x.b.lo) x.e s.requires.3 (both w.result.hi w.result.lo) c.round_wide-then-wide_less-2.result c.if-s-t.false l w.ensures c.round_wide-then-wide_less-2.ensures

returns-4 : tie.Need-returns
returns-4 c =
    let s = c.before.before.before.before.before in
    let x = s.args in
    let a = both x.a.hi x.a.lo in
    let b = both x.b.hi x.b.lo in
    let g = ltb-false a b (sym c.wide_less.ensures ∙ c.if-wide_less.false) in
    let h = ltb-false b a (sym c.wide_less-2.ensures ∙ c.if-wide_less-2.false) in
    none x.s x.t a b x.e s.requires.3 c.if-s-t.false (le_antisymm h g)

pub signed_sum_spec : {M : Type 1} → statement M
signed_sum_spec =
    tie.close
    (tie.spec
    wide-add-requires
    round-wide-requires
    returns
    wide-less-requires
    wide-sub-requires
    round-wide-requires-2
    returns-2
    wide-less-requires-2
    wide-sub-requires-2
    round-wide-requires-3
    returns-3
    returns-4)
