-- A line that was read has at most 80 bytes: what the code keeps of it is all of it.
use Prim.Native.Nat.{ℕ, ◌+◌, ◌*◌, ◌≤◌}
use mathlib.Core.Path.{◌≡◌, refl, sym, ap, ◌∙◌, subst}
use mathlib.Core.Bool.{Bool, true, false, not, ◌&&◌}
use mathlib.Core.List.{List, [], ◌∷◌, map}
use native.Mathlib.Omega.{arith}
use lib.Dec.{eqb, lit≤}
use lib.ListN.{length, take, get_or, length-append}
use Rattle.mir.specs.Read.{Read, got, refused, refuse, and_then}
use Rattle.mir.proofs.Passing.{then, got_same, stopped}
use Rattle.text.specs.Line.{empty_line, add_all}
use Rattle.text.proofs.Whole.{whole}
use Rattle.assembly.specs.Assembled.{Sort, a_register, a_class, an_index, a_byte, a_mode, bits, LineKind, Reading}
use Rattle.assembly.specs.Assembled.{number_from, register_words, class_words, index_words, mode_words, are_digits, pair, bits_of, word_bytes}
use Rattle.assembly.specs.Assembled.{onto, taking, taking_all, no_more, begun, heads, nothing, line_of}
use Rattle.assembly.specs.declared.reading.LineRead.{LineRead}
use Rattle.assembly.specs.Making.{part_of, tagged, told}
use Rattle.assembly.proofs.Every.{after_first, few}

-- at most so many bytes, where they were read
abbrev Bytes : ℕ → Read (List ℕ) → Type 0
Bytes m (got b) = length b ≤ m
Bytes m (refused n) = Unit {0}

abbrev Short : ℕ → Read Reading → Type 0
Short m (got r) = length r.bytes ≤ m
Short m (refused n) = Unit {0}

one : (r : Read ℕ) → Bytes 8 (and_then r (λ n. got (n ∷ [])))
one (got n) = lit≤ tt
one (refused n) = tt

two : (r : Read ℕ) → Bytes 8 (and_then r (λ n. got (n ∷ 0 ∷ [])))
two (got n) = lit≤ tt
two (refused n) = tt

tested : (t : Bool) (a b c d e f g h : ℕ) → Bytes 8 (refuse t 3 (got (a ∷ b ∷ c ∷ d ∷ e ∷ f ∷ g ∷ h ∷ [])))
tested true a b c d e f g h = tt
tested false a b c d e f g h = lit≤ tt

word_short : (k : Sort) (w : List ℕ) → Bytes 8 (word_bytes k w)
unfolding word_bytes bits_of
word_short a_register w = one (number_from 0 register_words w)
word_short a_class w = one (number_from 0 class_words w)
word_short an_index w = two (number_from 0 index_words w)
word_short a_byte w = one (number_from 0 index_words w)
word_short a_mode w = one (number_from 0 mode_words w)
word_short bits w =
    tested (not (eqb (length w) 16 && are_digits w)) (pair w 14) (pair w 12) (pair w 10) (pair w 8) (pair w 6)
    (pair w 4) (pair w 2) (pair w 0)

onto_short : (m : ℕ) (p : LineKind) (s : List ℕ) (ws : List (List ℕ)) (x : Read (List ℕ)) → length s ≤ m → Bytes 8 x
    → Short (m + 8) (onto p s ws x)
onto_short m p s ws (got b) h k = simp length-append (omega (arith, h, k))
onto_short m p s ws (refused n) h k = tt

word_more : (m : ℕ) (k : Sort) (r : Reading) (ws : List (List ℕ)) → length r.bytes ≤ m → r.words ≡ ws → Short (m + 8) (taking k r)
unfolding taking
word_more m k r [] h e = rw e tt
word_more m k r (w ∷ ws) h e = rw e (onto_short m r.part r.bytes ws (word_bytes k w) h (word_short k w))

one_more : (m : ℕ) (k : Sort) (x : Read Reading) → Short m x → Short (m + 8) (and_then x (taking k))
one_more m k (got r) h = word_more m k r r.words h refl
one_more m k (refused n) h = tt

all_short : (ks : List Sort) (m n : ℕ) (x : Read Reading) → Short m x → m + 8 * length ks ≤ n → Short n (taking_all ks x)
all_short [] m n (got r) h l = omega (arith, h, l)
all_short [] m n (refused k) h l = tt
all_short (k ∷ ks) m n x h l = all_short ks (m + 8) n (and_then x (taking k)) (one_more m k x h) (omega (arith, l))

none_more : (m : ℕ) (r : Reading) (ws : List (List ℕ)) → length r.bytes ≤ m → Short m (no_more r ws)
none_more m r [] h = h
none_more m r (w ∷ ws) h = tt

closed : (m : ℕ) (x : Read Reading) → Short m x → Short m (and_then x (λ r. no_more r r.words))
closed m (got r) h = none_more m r r.words h
closed m (refused n) h = tt

by_head : (x : Read ℕ) (ws : List (List ℕ)) → Short 45 (and_then x (after_first ws))
by_head (got n) ws =
    let f = few n in
    closed 45 (taking_all (get_or heads n nothing).sorts (got (begun (get_or heads n nothing) ws)))
    (all_short (get_or heads n nothing).sorts 5 45 (got (begun (get_or heads n nothing) ws)) f.0 (omega (arith, f.1)))
by_head (refused n) ws = tt

line_short : (ws : List (List ℕ)) → Short 45 (line_of ws)
unfolding line_of
line_short [] = tt
line_short (w ∷ ws) = by_head (number_from 0 (map (λ h. h.word) heads) w) ws

-- what was heard of a line that was read
pub record Heard (ws : List (List ℕ)) (t : LineRead) : Type 0 where
  pub reading : Reading
  pub found : line_of ws ≡ got reading
  pub part : part_of t.head ≡ reading.part
  pub text : take t.line.len t.line.bytes ≡ reading.bytes
  pub short : t.line.len ≤ 80

pub heard : (ws : List (List ℕ)) (t : LineRead) → tagged (part_of t.head) t.line ≡ and_then (line_of ws) told → Heard ws t
heard ws t e =
    let p = then (line_of ws) told _ (sym e) in
    let r = p.first in
    let s = got_same _ _ p.rest in
    let b : length r.bytes ≤ 45 = subst (Short 45) p.found (line_short ws) in
    let l : t.line ≡ add_all empty_line r.bytes = sym (ap (λ y. y.line) s) in
    let w = whole r.bytes (omega (arith, b)) in
    record {
      reading = r;
      found = p.found;
      part = sym (ap (λ y. y.part) s);
      text = ap (λ y. take y.len y.bytes) l ∙ ap (λ n. take n (add_all empty_line r.bytes).bytes) w.count ∙ w.bytes;
      short = subst (λ y. y.len ≤ 80) (sym l) w.fits;
    }

-- a line that was not read is refused by 3
pub unheard : (ws : List (List ℕ)) → refused 3 ≡ and_then (line_of ws) told → line_of ws ≡ refused 3
unheard ws e = stopped (λ r. record { part = r.part; line = add_all empty_line r.bytes }) (line_of ws) 3 (sym e)
