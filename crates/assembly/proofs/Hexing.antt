-- A constant's line says the constant's bytes.
use Prim.Native.Nat.{ℕ, zero, suc, ◌+◌, ◌*◌, ◌/◌, ◌%◌, ◌<◌}
use mathlib.Core.Path.{◌≡◌, refl, sym, ap, ◌∙◌, subst}
use mathlib.Core.Bool.{Bool, true, not, ◌&&◌}
use mathlib.Core.List.{List, [], ◌∷◌, ◌++◌, append_assoc, append-nil}
use native.Mathlib.Omega.{arith}
use borrow.Author.Tests.{lt-ltb, eqb-true}
use lib.Dec.{T, ltb, eqb}
use lib.ListN.{length}
use Rattle.words.specs.Bytes.{number}
use Rattle.mir.specs.Read.{got, refuse}
use Rattle.mir.proofs.Tables.{and_left, and_right}
use Rattle.text.specs.Text.{ascii, hex_digit, hex_in}
use Rattle.assembly.specs.Lines.{constant_line}
use Rattle.assembly.specs.Assembled.{digit, is_digit, are_digits, pair, bits_of, Sort, bits, word_bytes, FirstWord, heads}
use Rattle.assembly.specs.Assembled as Spec
use Rattle.assembly.proofs.Pieces.{t_true, true_t, both, over, passing, passes}
use Rattle.assembly.proofs.Saying.{none, and, Says, says, retold}
use Rattle.assembly.proofs.Rows.{Row, row}

-- a digit is the one of its number, and a word's byte
record Hex (n : ℕ) : Type 0 where
  same : digit (hex_digit n) ≡ n
  above : T (ltb 35 (hex_digit n))

abbrev is_hex : ℕ → Bool
is_hex n = eqb (digit (hex_digit n)) n && ltb 35 (hex_digit n)

sixteen : T (passing is_hex 16 0)
sixteen = tt

hex-digit : (n : ℕ) → n < 16 → Hex n
hex-digit n h =
    let t = passes is_hex 16 n sixteen h in
    record {
      same = eqb-true (digit (hex_digit n)) n (t_true (eqb (digit (hex_digit n)) n) (and_left (eqb (digit (hex_digit n)) n) (ltb 35 (hex_digit n)) t));
      above = and_right (eqb (digit (hex_digit n)) n) (ltb 35 (hex_digit n)) t;
    }

-- the digits of bytes, the highest first
abbrev two : ℕ → List ℕ
two b = hex_digit (b / 16) ∷ hex_digit (b % 16) ∷ []

abbrev digits : List ℕ → List ℕ
digits [] = []
digits (b ∷ bs) = digits bs ++ two b

abbrev twice : ℕ → ℕ
twice zero = zero
twice (suc n) = suc (suc (twice n))

abbrev Low : List ℕ → Type 0
Low [] = Unit {0}
Low (b ∷ bs) = (b < 256) × Low bs

hexes : (bs : List ℕ) → Low bs → hex_in (twice (length bs)) (number bs) ≡ digits bs
unfolding hex_in number
hexes [] h = refl
hexes (b ∷ bs) h =
    let k = h.0 in
    let w = number bs in
    let p : (b + 256 * w) % 16 ≡ b % 16 = omega arith in
    let d : b / 16 < 16 = omega arith in
    let x : (b + 256 * w) / 16 ≡ b / 16 + 16 * w = omega arith in
    let y : (b / 16 + 16 * w) % 16 ≡ b / 16 = omega arith in
    let z : (b / 16 + 16 * w) / 16 ≡ w = omega arith in
    let q : (b + 256 * w) / 16 % 16 ≡ b / 16 = ap (λ x. x % 16) x ∙ y in
    let r : (b + 256 * w) / 16 / 16 ≡ w = ap (λ x. x / 16) x ∙ z in
    (λ i. hex_in (twice (length bs)) (r i) ++ hex_digit (q i) ∷ [] ++ hex_digit (p i) ∷ [])
    ∙ ap (λ l. l ++ hex_digit (b / 16) ∷ [] ++ hex_digit (b % 16) ∷ []) (hexes bs h.1)
    ∙ append_assoc (digits bs) (hex_digit (b / 16) ∷ []) (hex_digit (b % 16) ∷ [])

are_both : (v w : List ℕ) → T (are_digits v) → T (are_digits w) → T (are_digits (v ++ w))
are_both [] w s t = t
are_both (b ∷ v) w s t = both (is_digit b) (are_digits (v ++ w)) (and_left (is_digit b) (are_digits v) s) (are_both v w (and_right (is_digit b) (are_digits v) s) t)

over_two : (v w : List ℕ) → T (over 35 v) → T (over 35 w) → T (over 35 (v ++ w))
over_two [] w s t = t
over_two (b ∷ v) w s t = both (ltb 35 b) (over 35 (v ++ w)) (and_left (ltb 35 b) (over 35 v) s) (over_two v w (and_right (ltb 35 b) (over 35 v) s) t)

digit_low : (n : ℕ) → n < 16 → T (is_digit (hex_digit n))
digit_low n h = true_t (is_digit (hex_digit n)) (lt-ltb (digit (hex_digit n)) 16 (subst (λ x. x < 16) (sym (hex-digit n h).same) h))

two_digits : (b : ℕ) → b < 256 → T (are_digits (two b))
two_digits b h =
    let d : b / 16 < 16 = omega arith in
    let m : b % 16 < 16 = omega arith in
    both (is_digit (hex_digit (b / 16))) (is_digit (hex_digit (b % 16)) && true) (digit_low (b / 16) d)
    (both (is_digit (hex_digit (b % 16))) true (digit_low (b % 16) m) tt)

two_over : (b : ℕ) → b < 256 → T (over 35 (two b))
two_over b h =
    let d : b / 16 < 16 = omega arith in
    let m : b % 16 < 16 = omega arith in
    both (ltb 35 (hex_digit (b / 16))) (ltb 35 (hex_digit (b % 16)) && true) (hex-digit (b / 16) d).above
    (both (ltb 35 (hex_digit (b % 16))) true (hex-digit (b % 16) m).above tt)

all_digits : (bs : List ℕ) → Low bs → T (are_digits (digits bs))
all_digits [] h = tt
all_digits (b ∷ bs) h = are_both (digits bs) (two b) (all_digits bs h.1) (two_digits b h.0)

all_over : (bs : List ℕ) → Low bs → T (over 35 (digits bs))
all_over [] h = tt
all_over (b ∷ bs) h = over_two (digits bs) (two b) (all_over bs h.1) (two_over b h.0)

value : (b : ℕ) → b < 256 → 16 * digit (hex_digit (b / 16)) + digit (hex_digit (b % 16)) ≡ b
value b h =
    let d : b / 16 < 16 = omega arith in
    let m : b % 16 < 16 = omega arith in
    let p = (hex-digit (b / 16) d).same in
    let q = (hex-digit (b % 16) m).same in
    let e : 16 * (b / 16) + b % 16 ≡ b = omega arith in
    (λ i. 16 * p i + q i) ∙ e

module _ (a b c d e f g h : ℕ) where
  abbrev pub eight : List ℕ
  eight = a ∷ b ∷ c ∷ d ∷ e ∷ f ∷ g ∷ h ∷ []

  bits_back : Low eight → bits_of (digits eight) ≡ got eight
  unfolding bits_of
  bits_back l =
      ap (λ t. refuse (not t) 3 (got (pair (digits eight) 14 ∷ pair (digits eight) 12 ∷ pair (digits eight) 10 ∷ pair (digits eight) 8 ∷ pair (digits eight) 6 ∷ pair (digits eight) 4 ∷ pair (digits eight) 2 ∷ pair (digits eight) 0 ∷ [])))
      (t_true (are_digits (digits eight)) (all_digits eight l))
      ∙ (λ i. got (value a l.0 i ∷ value b l.1.0 i ∷ value c l.1.1.0 i ∷ value d l.1.1.1.0 i ∷ value e l.1.1.1.1.0 i
      ∷ value f l.1.1.1.1.1.0 i ∷ value g l.1.1.1.1.1.1.0 i ∷ value h l.1.1.1.1.1.1.1.0 i ∷ []))

  row-constant : Row 2 (record { word = ascii "constant"; part = Spec.constant_line; start = 12 ∷ 0 ∷ 33 ∷ 0 ∷ []; sorts = bits ∷ [] })
  unfolding heads ascii
  row-constant = row 2 _ tt refl

  pub constant-said : Low eight → Says (constant_line (number eight)) Spec.constant_line (12 ∷ 0 ∷ 33 ∷ 0 ∷ eight)
  unfolding constant_line word_bytes ascii
  constant-said l =
      let x = hexes eight l in
      let s = says 2 _ row-constant.low row-constant.same (and {k = bits} {w = digits eight} (bits_back l) (all_over eight l) none) in
      retold (ap (λ w. ascii "constant" ++ 32 ∷ w ++ 10 ∷ []) (append-nil (digits eight) ∙ sym x)) refl s
