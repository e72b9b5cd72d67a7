-- The lines of a store, word by word.
use Prim.Native.Nat.{ℕ, suc, ◌+◌, ◌-◌, ◌*◌, ◌≤◌, ◌<◌}
use mathlib.Core.Path.{◌≡◌, sym, ap, ◌∙◌}
use mathlib.Core.List.{List, [], ◌++◌}
use native.Mathlib.Numerals.{add-one}
use native.Mathlib.Omega.{arith}
use Rattle.words.specs.Bytes.{word_at}
use Rattle.reports.specs.Lines.{word_line}
use Rattle.show_store.specs.Shown.{word_lines}

module _ (store : List ℕ) (i : ℕ) where
  pub words-on : i < 1602
      → word_lines store (1602 - i) i ≡ word_line i (word_at store (8 * i)) ++ word_lines store (1602 - (i + 1)) (i + 1)
  unfolding word_lines
  words-on h =
      let n : 1602 - i ≡ suc (1602 - (i + 1)) = omega arith in
      ap (λ n. word_lines store n i) n
      ∙ ap (λ j. word_line i (word_at store (8 * i)) ++ word_lines store (1602 - (i + 1)) j) (sym (add-one i))

  pub words-end : 1602 ≤ i → word_lines store (1602 - i) i ≡ []
  unfolding word_lines
  words-end h = let n : 1602 - i ≡ 0 = omega arith in ap (λ n. word_lines store n i) n
