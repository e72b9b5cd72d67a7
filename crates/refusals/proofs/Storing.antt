-- A turn of a loop that stores from the beginning on.
use Prim.Native.Nat.{ℕ, ◌+◌, ◌<◌}
use mathlib.Core.Path.{◌≡◌, sym, ap, ◌∙◌}
use mathlib.Core.List.{List}
use native.Mathlib.Nat.{zero-add}
use lib.ListN.{length, drop, get_or, set}
use lib.Seq.{sets}
use Rattle.words.proofs.Copying.{turn}

pub stored : (l b : List ℕ) (i : ℕ) {v : ℕ} → v ≡ get_or b i 0 → i < length b
    → sets (set l i v) (0 + (i + 1)) (drop (i + 1) b) ≡ sets l (0 + i) (drop i b)
stored l b i {v} e h =
    ap (λ x. sets (set l i x) (0 + (i + 1)) (drop (i + 1) b)) e
    ∙ ap (λ n. sets (set l n (get_or b i 0)) (0 + (i + 1)) (drop (i + 1) b)) (sym (zero-add i))
    ∙ sym (turn l b 0 i h)
