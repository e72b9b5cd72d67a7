-- A run of registers, from a position on: the first, and then the rest.
use Prim.Native.Nat.{ℕ, zero, suc, ◌+◌, ◌-◌, ◌<◌, ◌≤◌}
use mathlib.Core.Path.{◌≡◌, refl, sym, ap, ◌∙◌}
use mathlib.Core.Bool.{true, false, ◌||◌}
use mathlib.Core.List.{List}
use native.Mathlib.Nat.{not-suc-le-zero}
use native.Mathlib.Numerals.{add-one}
use native.Mathlib.Omega.{arith}
use borrow.Author.Tests.{le-ltb, lt-ltb}
use lib.ListN.{get_or}
use Rattle.mir.specs.Read.{above}
use Rattle.mir.specs.Field.{bytes_at}

module _ (last : ℕ) (s : List ℕ) (at : ℕ) where
  pub run-high : (left : ℕ) → 0 < left → last < get_or s at 0 → above last (bytes_at s at left) ≡ true
  run-high zero h k = absurd (not-suc-le-zero h)
  run-high (suc left) h k = simp (lt-ltb last (get_or s at 0) k)

  pub run-low : (left : ℕ) → 0 < left → get_or s at 0 ≤ last → above last (bytes_at s at left) ≡ above last (bytes_at s (at + 1) (left - 1))
  run-low zero h k = absurd (not-suc-le-zero h)
  run-low (suc left) h k =
      let e : left ≡ suc left - 1 = omega arith in
      ap (λ b. b || above last (bytes_at s (suc at) left)) (le-ltb last (get_or s at 0) k)
      ∙ ap (λ i. above last (bytes_at s i left)) (sym (add-one at))
      ∙ ap (λ k. above last (bytes_at s (at + 1) k)) e

  pub run_none : (left : ℕ) → left ≤ 0 → above last (bytes_at s at left) ≡ false
  run_none zero h = refl
  run_none (suc left) h = absurd (not-suc-le-zero h)
