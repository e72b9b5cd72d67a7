-- The text for a sheet is held whole by a line.
use Prim.Native.Nat.{ℕ, ◌≤◌}
use mathlib.Core.Path.{◌≡◌, refl, ap, subst}
use mathlib.Core.List.{List}
use native.Mathlib.Omega.{arith}
use borrow.Author.Tests.{eq-eqb, ne_eqb}
use lib.ListN.{length, length-append}
use Rattle.text.specs.declared.line.Line.{Line}
use Rattle.text.specs.Line.{empty_line, Adds, Prints}
use Rattle.text.specs.Text.{ascii, refused_line}
use Rattle.text.proofs.Short.{number_short, digits}
use Rattle.text.proofs.Whole.{prints}
use Rattle.figures.specs.declared.entry.Figures.{Figures}
use Rattle.figures.specs.Shelf.{shelf}
use Rattle.figures.proofs.Fewness.{bytes_few}
use Rattle.shelf.specs.Printed.{figures_text, printed}

-- 27 bytes beside the numbers, of which the first has at most five digits
short : (b c r : ℕ) → b ≤ 65536 → length (figures_text b c r) ≤ 80
unfolding figures_text ascii
short b c r h =
    let i = digits 4 19 b (omega (arith, h)) in
    let j = number_short c in
    let k = number_short r in
    simp length-append (omega (arith, i, j, k))

module _ (sheet : List ℕ) {f : Figures} (e : f ≡ shelf sheet) {l : Line} where
  pub refused : (f.number ≡ 0 → ⊥) → Prints (refused_line f.number f.index) l → Prints (printed sheet) l
  unfolding printed
  refused n p = subst (λ (t : List ℕ). Prints t l) (simp (← e, ne_eqb _ _ n)) p

  pub told : f.number ≡ 0 → Adds empty_line (figures_text f.bytes f.constants f.records) l → Prints (printed sheet) l
  unfolding printed
  told n p =
      let b : f.bytes ≤ 65536 = let h = bytes_few sheet in let g : f.bytes ≡ (shelf sheet).bytes = ap (λ x. x.bytes) e in omega (arith, h, g) in
      subst (λ (t : List ℕ). Prints t l) (simp (← e, eq-eqb _ _ n)) (prints refl p (short f.bytes f.constants f.records b))
