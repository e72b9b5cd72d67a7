-- A text of at most 80 bytes is held whole.
use Prim.Native.Nat.{ℕ, suc, ◌+◌, ◌≤◌, ◌<◌}
use mathlib.Core.Path.{◌≡◌, refl, ap, ◌∙◌}
use mathlib.Core.List.{List, [], ◌∷◌, ◌++◌, append_assoc, append-nil}
use native.Mathlib.Numerals.{add-one}
use native.Mathlib.Omega.{arith}
use borrow.Author.Tests.{lt-ltb}
use lib.Dec.{lit≤}
use lib.ListN.{length, length-append, length-set}
use lib.Seq.{take-suc-set}
use Rattle.text.specs.declared.line.Line.{Line}
use Rattle.text.specs.Line.{added, add_all, empty_line, Adds, Holds, Prints}

one_more : (l : Line) (s : List ℕ) (b : ℕ) → length s < 80 → Holds l s → Holds (added l b) (s ++ b ∷ [])
unfolding added
one_more l s b h p =
    let n = p.size in
    let k = p.count in
    let e : length (s ++ b ∷ []) ≡ suc (length s) = length-append s (b ∷ []) ∙ add-one (length s) in
    let room : l.len < 80 = omega arith in
    simp (lt-ltb l.len 80 room)
    (record {
      size = length-set l.bytes l.len b ∙ p.size;
      count = omega arith;
      fits = omega arith;
      bytes = rw (e, p.count, take-suc-set l.bytes (length s) b (omega arith), p.bytes);
    })

further : (l : Line) (s t : List ℕ) → length s + length t ≤ 80 → Holds l s → Holds (add_all l t) (s ++ t)
further l s [] h p = rw (append-nil s) p
further l s (b ∷ t) h p =
    let e : length (s ++ b ∷ []) ≡ suc (length s) = length-append s (b ∷ []) ∙ add-one (length s) in
    rw append_assoc at (further (added l b) (s ++ b ∷ []) t (omega arith) (one_more l s b (omega arith) p))

pub whole : (text : List ℕ) → length text ≤ 80 → Holds (add_all empty_line text) text
whole text h = further empty_line [] text (omega arith) (record { size = refl; count = refl; fits = lit≤ tt; bytes = refl })

pub prints : {l m : Line} {text : List ℕ} → l ≡ empty_line → Adds l text m → length text ≤ 80 → Prints text m
prints {l} {m} {text} e p h =
    let same : m ≡ add_all empty_line text = p.same ∙ ap (λ x. add_all x text) e in
    record { same = same; whole = rw same (whole text h) }
