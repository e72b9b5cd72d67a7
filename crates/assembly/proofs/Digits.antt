-- Hexadecimal digits of a word.
use Prim.Native.Nat.{ℕ, zero, suc, ◌+◌, ◌-◌, ◌*◌, ◌%◌, ◌≤◌, ◌<◌}
use mathlib.Core.Path.{◌≡◌, refl, sym, ap, ◌∙◌}
use mathlib.Core.Bool.{true, false, ◌&&◌}
use mathlib.Core.List.{List, [], ◌∷◌}
use native.Mathlib.Omega.{arith}
use native.Mathlib.Numerals.{add-one}
use borrow.Author.Tests.{lt-leb, le-leb, lt-ltb, le-ltb, ltb-true, eq-eqb, ne_eqb}
use lib.ListN.{length, drop, get_or, drop_of_length-le}
use lib.Seq.{drop-cons}
use lib.Dec.{ltb}
use Rattle.assembly.specs.Assembled.{digit, is_digit, are_digits, pair, bits_of}
use Rattle.mir.specs.Read.{got, refused, and_then}
use Rattle.text.specs.declared.line.Line.{Line}
use Rattle.text.specs.Line.{add_all}
use Rattle.mir.proofs.Tables.{and_left, and_right}
use Rattle.assembly.proofs.Pieces.{t_true, true_t}

pub digit_low : (b : ℕ) → b < 48 → 16 ≡ digit b
digit_low b h = simp (lt-leb 48 b h, lt-leb 97 b (omega (arith, h)))

pub digit_decimal : (b : ℕ) → 48 ≤ b → b ≤ 57 → b - 48 ≡ digit b
digit_decimal b h k = simp (le-leb 48 b h, le-leb b 57 k)

pub digit_between : (b : ℕ) → 57 < b → b < 97 → 16 ≡ digit b
digit_between b h k = simp (le-leb 48 b (omega (arith, h)), lt-leb b 57 h, lt-leb 97 b k)

pub digit_letter : (b : ℕ) → 97 ≤ b → b ≤ 102 → b - 87 ≡ digit b
digit_letter b h k = simp (le-leb 48 b (omega (arith, h)), lt-leb b 57 (omega (arith, h)), le-leb 97 b h, le-leb b 102 k)

pub digit_high : (b : ℕ) → 102 < b → 16 ≡ digit b
digit_high b h = simp (le-leb 48 b (omega (arith, h)), lt-leb b 57 (omega (arith, h)), le-leb 97 b (omega (arith, h)), lt-leb b 102 h)

-- byte after byte
pub no_digit : (w : List ℕ) (i d : ℕ) → i < length w → d ≡ digit (get_or w i 0) → 16 ≤ d → false ≡ are_digits (drop i w)
no_digit w i d h e k = let t : ltb (digit (get_or w i 0)) 16 ≡ false = ap (λ x. ltb x 16) (sym e) ∙ le-ltb d 16 k in rw (drop-cons w i 0 h, t)

pub a_digit : (w : List ℕ) (i d : ℕ) → i < length w → d ≡ digit (get_or w i 0) → d < 16 → are_digits (drop (i + 1) w) ≡ are_digits (drop i w)
a_digit w i d h e k =
    let t : ltb (digit (get_or w i 0)) 16 ≡ true = ap (λ x. ltb x 16) (sym e) ∙ lt-ltb d 16 k in
    rw (drop-cons w i 0 h, t, add-one i)

pub all_digits : (w : List ℕ) (i : ℕ) → length w ≤ i → true ≡ are_digits (drop i w)
all_digits w i h = rw (drop_of_length-le w h)

-- of digits alone, each is below 16
below : (b : ℕ) (w : List ℕ) → are_digits (b ∷ w) ≡ true → (digit b < 16) × (are_digits w ≡ true)
below b w e =
    let t = true_t (is_digit b && are_digits w) e in
    (ltb-true (digit b) 16 (t_true (is_digit b) (and_left (is_digit b) (are_digits w) t)), t_true (are_digits w) (and_right (is_digit b) (are_digits w) t))

each : (w : List ℕ) (i : ℕ) → are_digits w ≡ true → i < length w → digit (get_or w i 0) < 16
each [] i e h = absurd (omega (arith, h))
each (b ∷ w) zero e h = (below b w e).0
each (b ∷ w) (suc i) e h = each w i (below b w e).1 (omega (arith, h))

pub paired : {x y a b : ℕ} → x ≡ a → y ≡ b → (16 * x + y) % 256 ≡ (16 * a + b) % 256
paired {x} {y} {a} {b} e f = ap (λ x. (16 * x + y) % 256) e ∙ ap (λ y. (16 * a + y) % 256) f

small : (x y : ℕ) → x < 16 → y < 16 → (16 * x + y) % 256 ≡ 16 * x + y
small x y h k = omega (arith, h, k)

pub one_byte : (w : List ℕ) (i : ℕ) → are_digits w ≡ true → i + 1 < length w → pair w i % 256 ≡ pair w i
one_byte w i e h =
    let a = each w i e (omega (arith, h)) in
    let b = each w (i + 1) e h in
    small (digit (get_or w i 0)) (digit (get_or w (i + 1) 0)) a b

pub cons : {a b : ℕ} {s t : List ℕ} → a ≡ b → s ≡ t → (a ∷ s) ≡ (b ∷ t)
cons {a} {b} {s} {t} e f = ap (λ x. x ∷ s) e ∙ ap (λ x. b ∷ x) f

pub eight : (w : List ℕ) → length w ≡ 16 → are_digits w ≡ true
    → (pair w 14 % 256 ∷ pair w 12 % 256 ∷ pair w 10 % 256 ∷ pair w 8 % 256 ∷ pair w 6 % 256 ∷ pair w 4 % 256 ∷ pair w 2 % 256 ∷ pair w 0 % 256 ∷ [])
    ≡ (pair w 14 ∷ pair w 12 ∷ pair w 10 ∷ pair w 8 ∷ pair w 6 ∷ pair w 4 ∷ pair w 2 ∷ pair w 0 ∷ [])
eight w l e =
    cons (one_byte w 14 e (omega (arith, l))) (cons (one_byte w 12 e (omega (arith, l))) (cons (one_byte w 10 e (omega (arith, l)))
    (cons (one_byte w 8 e (omega (arith, l))) (cons (one_byte w 6 e (omega (arith, l))) (cons (one_byte w 4 e (omega (arith, l)))
    (cons (one_byte w 2 e (omega (arith, l))) (cons (one_byte w 0 e (omega (arith, l))) refl)))))))

-- what is read of sixteen digits, and of others
pub read_bits : (w : List ℕ) → length w ≡ 16 → are_digits w ≡ true
    → bits_of w ≡ got (pair w 14 ∷ pair w 12 ∷ pair w 10 ∷ pair w 8 ∷ pair w 6 ∷ pair w 4 ∷ pair w 2 ∷ pair w 0 ∷ [])
unfolding bits_of
read_bits w l e = simp (eq-eqb (length w) 16 l, e)

pub other_count : (w : List ℕ) → (length w ≡ 16 → ⊥) → bits_of w ≡ refused 3
unfolding bits_of
other_count w h = simp (ne_eqb (length w) 16 h)

pub not_digits : (w : List ℕ) → length w ≡ 16 → are_digits w ≡ false → bits_of w ≡ refused 3
unfolding bits_of
not_digits w l e = simp (eq-eqb (length w) 16 l, e)

-- the bytes of the digits, added to a line
pub bits_put : (line : Line) (w s : List ℕ) → length w ≡ 16 → are_digits w ≡ true
    → s ≡ (pair w 14 % 256 ∷ pair w 12 % 256 ∷ pair w 10 % 256 ∷ pair w 8 % 256 ∷ pair w 6 % 256 ∷ pair w 4 % 256 ∷ pair w 2 % 256 ∷ pair w 0 % 256 ∷ [])
    → got (add_all line s) ≡ and_then (bits_of w) (λ b. got (add_all line b))
bits_put line w s l e p =
    ap (λ s. got (add_all line s)) (p ∙ eight w l e) ∙ sym (ap (λ r. and_then r (λ b. got (add_all line b))) (read_bits w l e))

pub no_bits : (line : Line) (w : List ℕ) → bits_of w ≡ refused 3 → and_then (bits_of w) (λ b. got (add_all line b)) ≡ refused 3
no_bits line w e = ap (λ r. and_then r (λ b. got (add_all line b))) e
