-- Each word of a table stands for its number, and for the bytes of its sort.
use Prim.Native.Nat.{ℕ, zero, suc, ◌+◌, ◌<◌}
use mathlib.Core.Path.{◌≡◌, ap, ◌∙◌, subst}
use mathlib.Core.Bool.{Bool, false, ◌&&◌}
use mathlib.Core.List.{List, [], map}
use native.Mathlib.Omega.{arith}
use borrow.Author.Tests.{eqb-true}
use lib.Dec.{T, eqb}
use lib.ListN.{get_or, get_or-map}
use Rattle.mir.specs.Read.{Read, got, refused}
use Rattle.mir.proofs.Tables.{and_left, and_right}
use Rattle.replay.specs.Same.{same}
use Rattle.sheet.specs.declared.setup.Mode.{Mode}
use Rattle.text.specs.Text.{ascii, decimal, decimal_in}
use Rattle.text.specs.Text as Text
use Rattle.assembly.specs.Lines.{named}
use Rattle.mir.specs.declared.records.Loc.{Loc}
use Rattle.mir.specs.Place.{class}
use Rattle.assembly.specs.Assembled.{number_from, counting, register_words, class_words, index_words, mode_words, FirstWord, nothing, heads}
use Rattle.assembly.proofs.Pieces.{t_true, passing, passes, is_word}

abbrev is_at : ℕ → Read ℕ → Bool
is_at i (got n) = eqb n i
is_at i (refused n) = false

-- a table whose word at i is a word and has number i
abbrev right : List (List ℕ) → ℕ → Bool
right table i = is_at i (number_from 0 table (get_or table i [])) && is_word (get_or table i [])

-- what is known of a table's word
pub record Stands (table : List (List ℕ)) (i : ℕ) (w : List ℕ) : Type 0 where
  pub number : number_from 0 table w ≡ got i
  pub word : T (is_word w)

at : (i : ℕ) (r : Read ℕ) → T (is_at i r) → r ≡ got i
at i (got n) t = ap got (eqb-true n i (t_true (eqb n i) t))
at i (refused n) t = absurd t

stands : (table : List (List ℕ)) (n k : ℕ) → T (passing (right table) n 0) → k < n → Stands table k (get_or table k [])
stands table n k t h =
    let r = passes (right table) n k t h in
    record {
      number = at k (number_from 0 table (get_or table k [])) (and_left (is_at k (number_from 0 table (get_or table k []))) (is_word (get_or table k [])) r);
      word = and_right (is_at k (number_from 0 table (get_or table k []))) (is_word (get_or table k [])) r;
    }

registers_right : T (passing (right register_words) 32 0)
unfolding register_words number_from same Text.register ascii decimal_in
registers_right = tt

classes_right : T (passing (right class_words) 3 0)
unfolding class_words number_from same ascii
classes_right = tt

indices_right : T (passing (right index_words) 256 0)
unfolding index_words number_from same decimal_in
indices_right = tt

heads_right : T (passing (right (map (λ h. h.word) heads)) 59 0)
unfolding heads number_from same ascii
heads_right = tt

-- the numbers in order
pub counted : {A : Type 0} (f : ℕ → A) (n i k : ℕ) (d : A) → k < n → get_or (map f (counting n i)) k d ≡ f (i + k)
counted f zero i k d h = absurd (omega arith)
counted f (suc n) i zero d h = let z : i ≡ i + 0 = omega arith in ap f z
counted f (suc n) i (suc k) d h = let z : suc i + k ≡ i + suc k = omega arith in counted f n (suc i) k d (omega arith) ∙ ap f z

pub register_word : (r : ℕ) → r < 32 → Stands register_words r (Text.register (named r))
unfolding register_words
register_word r h =
    let z : 0 + r ≡ r = omega arith in
    subst (Stands register_words r) (counted (λ r. Text.register (named r)) 32 0 r [] h ∙ ap (λ r. Text.register (named r)) z) (stands register_words 32 r registers_right h)

pub index_word : (i : ℕ) → i < 256 → Stands index_words i (decimal i)
unfolding index_words
index_word i h =
    let z : 0 + i ≡ i = omega arith in
    subst (Stands index_words i) (counted decimal 256 0 i [] h ∙ ap decimal z) (stands index_words 256 i indices_right h)

-- the words of a class
abbrev pub class_name : Loc → List ℕ
class_name (Loc.Stack i) = ascii "Stack"
class_name (Loc.Mem i) = ascii "Mem"
class_name (Loc.Param i) = ascii "Param"

pub class_word : (p : Loc) → Stands class_words (class p) (class_name p)
unfolding class_words
class_word (Loc.Stack i) = stands class_words 3 0 classes_right (omega arith)
class_word (Loc.Mem i) = stands class_words 3 1 classes_right (omega arith)
class_word (Loc.Param i) = stands class_words 3 2 classes_right (omega arith)

modes_right : T (passing (right mode_words) 3 0)
unfolding mode_words number_from same ascii
modes_right = tt

-- a mode's byte, and its word
abbrev pub mode_byte : Mode → ℕ
mode_byte Mode.Plain = 0
mode_byte Mode.Stable = 1
mode_byte Mode.Minding = 2

abbrev pub mode_name : Mode → List ℕ
mode_name Mode.Plain = ascii "plain"
mode_name Mode.Stable = ascii "stable"
mode_name Mode.Minding = ascii "minding"

pub mode_word : (m : Mode) → Stands mode_words (mode_byte m) (mode_name m)
unfolding mode_words
mode_word Mode.Plain = stands mode_words 3 0 modes_right (omega arith)
mode_word Mode.Stable = stands mode_words 3 1 modes_right (omega arith)
mode_word Mode.Minding = stands mode_words 3 2 modes_right (omega arith)

-- the first word of a row of the table
pub head_word : (n : ℕ) (h : FirstWord) → n < 59 → get_or heads n nothing ≡ h → Stands (map (λ h. h.word) heads) n h.word
head_word n h l e =
    subst (Stands (map (λ h. h.word) heads) n) (get_or-map (λ h. h.word) heads n nothing ∙ ap (λ h. h.word) e)
    (stands (map (λ h. h.word) heads) 59 n heads_right l)
