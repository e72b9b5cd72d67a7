-- Loops that add the bytes, or the registers, of a slice.
use Prim.Native.Nat.{ℕ, ◌+◌, ◌≤◌, ◌<◌}
use mathlib.Core.Path.{◌≡◌, sym, ap, ◌∙◌}
use mathlib.Core.List.{List, [], ◌∷◌}
use native.Mathlib.Numerals.{add-one}
use lib.ListN.{length, drop, get_or, drop_of_length-le}
use lib.Seq.{drop-cons}
use Rattle.text.specs.declared.line.Line.{Line}
use Rattle.text.specs.Line.{added, add_all, add_all_append, Adds, ◌▹◌}
use Rattle.text.specs.Text.{register, registers}

-- what is left to add, from i: the byte at i, and then the rest
pub turn : (l : Line) (s : List ℕ) (i : ℕ) → i < length s → add_all (added l (get_or s i 0)) (drop (i + 1) s) ≡ add_all l (drop i s)
turn l s i h = rw (add-one i, drop-cons s i 0 h)

-- nothing is left past the end
pub ended : (l : Line) (s : List ℕ) (i : ℕ) → length s ≤ i → add_all l (drop i s) ≡ l
ended l s i h = rw (drop_of_length-le s h)

pub turn_register : {l m n : Line} (rs : List ℕ) (i : ℕ) → i < length rs → Adds l (32 ∷ []) m → Adds m (register (get_or rs i 0)) n
    → add_all n (registers (drop (i + 1) rs)) ≡ add_all l (registers (drop i rs))
turn_register {l} rs i h p q =
    ap (λ x. add_all x (registers (drop (i + 1) rs))) (p ▹ q).same
    ∙ sym (add_all_append l (32 ∷ register (get_or rs i 0)) (registers (drop (i + 1) rs)))
    ∙ rw (add-one i, drop-cons rs i 0 h)

pub ended_registers : (l : Line) (rs : List ℕ) (i : ℕ) → length rs ≤ i → add_all l (registers (drop i rs)) ≡ l
ended_registers l rs i h = rw (drop_of_length-le rs h)
