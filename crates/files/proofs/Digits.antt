-- The number that digits spell, digit by digit.
use Prim.Native.Nat.{ℕ, ◌+◌, ◌-◌, ◌*◌, ◌≤◌, ◌<◌}
use mathlib.Core.Path.{◌≡◌, sym, ap, ◌∙◌}
use mathlib.Core.List.{List, ◌∷◌}
use Rattle.std.specs.Prelude.{◌⊎◌, None, Some}
use Rattle.std.proofs.Common.{inl, inr, arith}
use native.Mathlib.Numerals.{add-one}
use borrow.Author.Tests.{lt-ltb, le-ltb, eq-eqb, ne_eqb}
use lib.ListN.{length, drop, get_or, drop_of_length-le}
use lib.Seq.{drop-cons}
use Rattle.files.specs.Start.{start_from, start_of}

module _ (s : List ℕ) where
  pub no_digit : length s ≡ 0 → None ≡ start_of s
  unfolding start_of
  no_digit h = simp (eq-eqb _ _ h)

  pub some-digit : (length s ≡ 0 → ⊥) → start_from 0 s ≡ start_of s
  unfolding start_of
  some-digit h = simp (ne_eqb _ _ h)

  module _ (n i : ℕ) (h : i < length s) where
    one : start_from n (drop i s) ≡ start_from n (get_or s i 0 ∷ drop (i + 1) s)
    one = ap (start_from n) (drop-cons s i 0 h) ∙ ap (λ j. start_from n (get_or s i 0 ∷ drop j s)) (sym (add-one i))

    below : get_or s i 0 < 48 → start_from n (drop i s) ≡ None
    unfolding start_from
    below a = one ∙ simp (lt-ltb _ _ a)

    module _ (a : 48 ≤ get_or s i 0) where
      above : 57 < get_or s i 0 → start_from n (drop i s) ≡ None
      unfolding start_from
      above b = one ∙ simp (le-ltb _ _ a, lt-ltb _ _ b)

      module _ (b : get_or s i 0 ≤ 57) where
        abbrev next : ℕ
        next = 10 * n + (get_or s i 0 - 48)

        pub large : 18446744073709551615 < next → start_from n (drop i s) ≡ None
        unfolding start_from
        large k = one ∙ simp (le-ltb _ _ a, le-ltb _ _ b, lt-ltb _ _ k)

        pub digit : next ≤ 18446744073709551615 → start_from n (drop i s) ≡ start_from next (drop (i + 1) s)
        unfolding start_from
        digit k = one ∙ simp (le-ltb _ _ a, le-ltb _ _ b, le-ltb _ _ k)

    -- a byte that is no digit
    pub outside : (get_or s i 0 < 48) ⊎ (57 < get_or s i 0) → start_from n (drop i s) ≡ None
    outside (inl a) = below a
    outside (inr b) = above (omega arith) b

  pub spelled : (n i : ℕ) → length s ≤ i → start_from n (drop i s) ≡ Some n
  unfolding start_from
  spelled n i h = ap (start_from n) (drop_of_length-le s h)
