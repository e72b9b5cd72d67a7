-- `sum`, by the signs and by which magnitude is larger. Assumes nothing.
use mathlib.Core.Path.{◌≡◌, refl, sym, ap, ◌∙◌}
use mathlib.Core.Bool.{Bool, true, false, not, cond, ◌&&◌, beq}
use Prim.Native.Nat.{ℕ, ◌+◌, ◌-◌, ◌≤◌, ◌<◌}
use native.Mathlib.Nat.{zero-mul}
use native.Mathlib.Omega.{arith}
use lib.Dec.{T, leb, ltb, leb→le, nleb→lt, ltb→lt, nltb→le, lit<}
use lib.Ieee.{binary64, round, sum, to_bits}
use lib.Ieee.Scale.{round_same}
use borrow.Author.Tests.{lt-ltb, le-ltb, le-leb, lt-leb}

pub ltb_agree : (a b c d : ℕ) → (a < b → c < d) → (b ≤ a → d ≤ c) → ltb a b ≡ ltb c d
ltb_agree a b c d f g = go (ltb a b) (ltb→lt a b) (nltb→le a b)
  where
    go : (t : Bool) → (T t → a < b) → (T (not t) → b ≤ a) → t ≡ ltb c d
    go true y n = sym (lt-ltb c d (f (y tt)))
    go false y n = sym (le-ltb c d (g (n tt)))

pub leb_agree : (a b c d : ℕ) → (a ≤ b → c ≤ d) → (b < a → d < c) → leb a b ≡ leb c d
leb_agree a b c d f g = go (leb a b) (leb→le a b) (nleb→lt a b)
  where
    go : (t : Bool) → (T t → a ≤ b) → (T (not t) → b < a) → t ≡ leb c d
    go true y n = sym (le-leb c d (f (y tt)))
    go false y n = sym (lt-leb c d (g (n tt)))

module _ (s t : Bool) (a b c : ℕ) where
  pub sum_like : beq s t ≡ true → sum binary64 s a t b c ≡ round binary64 s (a + b) c
  unfolding sum
  sum_like e = ap (λ (x : Bool). cond x (round binary64 s (a + b) c) (cond (ltb a b) (round binary64 t (b - a) c) (round binary64 (s && ltb b a) (a - b) c))) e

  pub sum_less : beq s t ≡ false → a < b → sum binary64 s a t b c ≡ round binary64 t (b - a) c
  unfolding sum
  sum_less e h =
      ap (λ (x : Bool). cond x (round binary64 s (a + b) c) (cond (ltb a b) (round binary64 t (b - a) c) (round binary64 (s && ltb b a) (a - b) c))) e
      ∙ ap (λ (x : Bool). cond x (round binary64 t (b - a) c) (round binary64 (s && ltb b a) (a - b) c)) (lt-ltb a b h)

  both_true : (x : Bool) → x && true ≡ x
  both_true true = refl
  both_true false = refl

  both_false : (x : Bool) → x && false ≡ false
  both_false true = refl
  both_false false = refl

  pub sum_more : beq s t ≡ false → b < a → sum binary64 s a t b c ≡ round binary64 s (a - b) c
  unfolding sum
  sum_more e h =
      ap (λ (x : Bool). cond x (round binary64 s (a + b) c) (cond (ltb a b) (round binary64 t (b - a) c) (round binary64 (s && ltb b a) (a - b) c))) e
      ∙ ap (λ (x : Bool). cond x (round binary64 t (b - a) c) (round binary64 (s && ltb b a) (a - b) c)) (le-ltb a b (omega arith))
      ∙ ap (λ (x : Bool). round binary64 x (a - b) c) (ap (λ (x : Bool). s && x) (lt-ltb b a h) ∙ both_true s)

  pub sum-none : beq s t ≡ false → a ≡ b → sum binary64 s a t b c ≡ round binary64 false 0 c
  unfolding sum
  sum-none e h =
      ap (λ (x : Bool). cond x (round binary64 s (a + b) c) (cond (ltb a b) (round binary64 t (b - a) c) (round binary64 (s && ltb b a) (a - b) c))) e
      ∙ ap (λ (x : Bool). cond x (round binary64 t (b - a) c) (round binary64 (s && ltb b a) (a - b) c)) (le-ltb a b (omega arith))
      ∙ ap (λ (x : Bool). round binary64 x (a - b) c) (ap (λ (x : Bool). s && x) (le-ltb b a (omega arith)) ∙ both_false s)
      ∙ ap (λ (x : ℕ). round binary64 false x c) {x = a - b} {y = 0} (omega arith)

pub zero_bits : (c : ℕ) → 0 < c → to_bits binary64 (round binary64 false 0 c) ≡ 0
zero_bits c C = ap (to_bits binary64) (round_same binary64 false 0 c 0 1 C (lit< tt) (zero-mul 1 ∙ sym (zero-mul c))) ∙ one
  where
    one : to_bits binary64 (round binary64 false 0 1) ≡ 0
    one = unfold to_bits round in refl
