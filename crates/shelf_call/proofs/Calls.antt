-- What the call gives where the answer has its length.
use Prim.Native.Nat.{ℕ}
use mathlib.Core.Path.{◌≡◌, refl, sym, ap, ◌∙◌}
use mathlib.Core.List.{List}
use lib.ListN.{length}
use borrow.Author.Tests.{eq-eqb}
use Rattle.words.specs.Bytes.{bytes_of, stored}
use Rattle.words.proofs.Lengths.{length-bytes_of}
use Rattle.words.proofs.Stored.{stored_whole}
use Rattle.figures.specs.declared.entry.Figures.{Figures}
use Rattle.figures.specs.Shelf.{shelf}
use Rattle.shelf_call.specs.Call.{ShelfCall, numbers, shelf_call}

abbrev call : Figures → ShelfCall
call f = record { number = f.number; answer = bytes_of (numbers f) }

-- five numbers fill the answer
pub given : (sheet lent : List ℕ) (f : Figures) {r : List ℕ} → length lent ≡ 40 → f ≡ shelf sheet → r ≡ stored lent 0 (bytes_of (numbers f))
    → record { number = f.number; answer = r } ≡ shelf_call sheet lent
unfolding shelf_call
given sheet lent f h e er =
    let w : stored lent 0 (bytes_of (numbers f)) ≡ bytes_of (numbers f)
    = stored_whole lent (bytes_of (numbers f)) (length-bytes_of (numbers f) ∙ refl ∙ sym h) in
    simp (eq-eqb _ _ h) (ap (λ x. record { number = f.number; answer = x }) (er ∙ w) ∙ ap call e)
