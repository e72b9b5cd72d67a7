-- A number of two words moved down to 63 digits with a sticky digit, and rounded. Assumes nothing.
use mathlib.Core.Path.{◌≡◌, sym, ap, ◌∙◌, subst}
use mathlib.Core.Logic.{inl, inr}
use mathlib.Core.Bool.{Bool}
use Prim.Native.Nat.{ℕ, suc, ◌+◌, ◌-◌, ◌*◌, ◌^◌, ◌≤◌, ◌<◌}
use native.Mathlib.Nat.{le_trans, le_of_eq, lt_of_lt_of_le, lt_of_le_of_lt, lt_of_mul-lt-mul_right, mul-le-mul_right, mul_assoc, add_comm}
use native.Mathlib.Omega.{arith}
use lib.Arith.{digits_lt}
use lib.Pow.{pow-add, pow_pos}
use lib.Count.{count_leading_zeros, leading_top}
use lib.IntN.{ℤ}
use lib.Signed.{mag}
use lib.Ieee.{binary64, up, down, round}
use Rattle.float.specs.Near.{Near, both}
use Rattle.float.specs.Biased.{biased}
use Rattle.float.proofs.Signed.{is_biased}
use Rattle.float.proofs.RoundWord.{round_pow}
use Rattle.float.proofs.Sticky.{near_scale, near_lt, one_more, sticky_round}

pub near_range : (x w u : ℕ) → 0 < u → 2 ^ 62 * u ≤ x → x < 2 ^ 63 * u → Near x w u → (2 ^ 62 ≤ w) × (w < 2 ^ 63)
near_range x w u U lo hi n = (low n, near_lt x w u (2 ^ 62) U hi n)
  where
    low : Near x w u → 2 ^ 62 ≤ w
    low (inl e) = native.Mathlib.Nat.le_of_mul-le-mul_right (le_trans lo (le_of_eq e)) U
    low (inr m) =
        let a : 2 ^ 62 * u < (w + 1) * u = lt_of_le_of_lt lo (lt_of_lt_of_le m.2 (le_of_eq (one_more w u))) in
        let b : 2 ^ 62 < w + 1 = lt_of_mul-lt-mul_right u a in
        omega arith

module _ (hi lo : ℕ) (p : 0 < hi) (h : hi < 2 ^ 64) (l : lo < 2 ^ 64) where
  top : (j : ℕ) × (count_leading_zeros 64 hi + suc j ≡ 64) × (2 ^ j ≤ hi) × (hi < 2 ^ suc j)
  top = leading_top 64 hi p h

  abbrev pub down_by : ℕ
  down_by = 65 - count_leading_zeros 64 hi

  down_is : down_by ≡ top.0 + 2
  down_is = let t = top in omega (arith, t.1)

  pub zeros-le : count_leading_zeros 64 hi ≤ 65
  zeros-le = let t = top in omega (arith, t.1)

  pub down_lt : down_by < 4096
  down_lt = omega arith

  range : (2 ^ 62 * 2 ^ down_by ≤ both hi lo) × (both hi lo < 2 ^ 63 * 2 ^ down_by)
  range =
      let t = top in
      let j = t.0 in (
        le_trans (le_of_eq (sym (pow-add 2 62 down_by) ∙ ap (λ (z : ℕ). 2 ^ z) {x = 62 + down_by} {y = j + 64} (omega (arith, down_is)) ∙ pow-add 2 j 64))
            (le_trans (mul-le-mul_right (2 ^ 64) t.2) (native.Mathlib.Nat.le-add_right (hi * 2 ^ 64) lo)),
        lt_of_lt_of_le (digits_lt t.3 l)
            (le_of_eq (sym (pow-add 2 (suc j) 64) ∙ ap (λ (z : ℕ). 2 ^ z) {x = suc j + 64} {y = 63 + down_by} (omega (arith, down_is)) ∙ pow-add 2 63 down_by)),
      )

  module _ (rh rl : ℕ) (n : Near (both hi lo) (both rh rl) (2 ^ down_by)) where
    bounds : (2 ^ 62 ≤ both rh rl) × (both rh rl < 2 ^ 63)
    bounds = near_range (both hi lo) (both rh rl) (2 ^ down_by) (pow_pos down_by) range.0 range.1 n

    pub one_word : both rh rl ≡ rl
    one_word = let b = bounds in omega (arith, b.1)

    pub word-lo : 2 ^ 62 ≤ rl
    word-lo = let b = bounds in omega (arith, b.0, b.1)

    pub word-hi : rl < 2 ^ 63
    word-hi = let b = bounds in omega (arith, b.1)

    pub upper-rounded : (s : Bool) (e f : ℤ) → mag e < 8192 → mag f < 8192 → biased f ≡ biased e + down_by
        → round binary64 s (rl * up f) (down f) ≡ round binary64 s (both hi lo * up e) (down e)
    upper-rounded s e f E F is =
        let a = biased e in
        round_pow s rl f (biased f) 8192 (is_biased f F)
        ∙ ap (λ (z : ℕ). round binary64 s (rl * 2 ^ z) (2 ^ 8192)) (is ∙ add_comm a down_by)
        ∙ sym (sticky_round s (both hi lo * 2 ^ a) rl (down_by + a) 8192 (near_scale (both hi lo) rl down_by a (subst (λ (w : ℕ). Near (both hi lo) w (2 ^ down_by)) one_word n)) word-lo)
        ∙ sym (round_pow s (both hi lo) e a 8192 (is_biased e E))

-- a number of one word, moved up by a word
pub moved_up : (s : Bool) (hi lo : ℕ) (e f : ℤ) → hi ≡ 0 → mag e < 8192 → mag f < 8192 → biased f + 64 ≡ biased e
    → round binary64 s (both lo 0 * up f) (down f) ≡ round binary64 s (both hi lo * up e) (down e)
moved_up s hi lo e f z E F is =
    round_pow s (both lo 0) f (biased f) 8192 (is_biased f F)
    ∙ ap (λ (x : ℕ). round binary64 s x (2 ^ 8192)) powers
    ∙ sym (round_pow s (both hi lo) e (biased e) 8192 (is_biased e E))
  where
    plain : both lo 0 ≡ both hi lo * 2 ^ 64
    plain = native.Mathlib.Nat.add-zero (lo * 2 ^ 64) ∙ ap (λ (x : ℕ). x * 2 ^ 64) {x = lo} {y = both hi lo} (omega arith)

    powers : both lo 0 * 2 ^ biased f ≡ both hi lo * 2 ^ biased e
    powers =
        ap (λ (x : ℕ). x * 2 ^ biased f) plain ∙ mul_assoc (both hi lo) (2 ^ 64) (2 ^ biased f)
        ∙ ap (λ (x : ℕ). both hi lo * x) (sym (pow-add 2 64 (biased f)) ∙ ap (λ (x : ℕ). 2 ^ x) (add_comm 64 (biased f) ∙ is))
