-- No line of a report is cut: each has at most 80 bytes.
use Prim.Native.Nat.{ℕ, zero, suc, ◌-◌, ◌*◌, ◌/◌, ◌%◌, ◌≤◌, ◌<◌}
use native.Mathlib.Omega.{arith}
use mathlib.Core.Path.{◌≡◌, refl}
use mathlib.Core.Bool.{Bool, true, false, cond}
use mathlib.Core.List.{List}
use borrow.Author.Tests.{lt-ltb}
use lib.Dec.{ltb, eqb, lit≤}
use lib.ListN.{length, length-append}
use Rattle.mir.proofs.Passing as mir
use Rattle.text.specs.Text.{ascii, decimal_in, decimal, hex_in, register}
use Rattle.text.proofs.Short.{name_short}
use Rattle.reports.specs.Lines.{refusal_words, refusal_line, lowered_line, played_line, class_names, half_names, word_name, word_line, difference_line, more_text}

pub either : (b : Bool) (x y : List ℕ) (m : ℕ) → length x ≤ m → length y ≤ m → length (cond b x y) ≤ m
either true x y m p q = p
either false x y m p q = q

number_in : (d n : ℕ) → length (decimal_in d n) ≤ suc d
unfolding decimal_in
number_in zero n = omega arith
number_in (suc d) n =
    let i = number_in d (n / 10) in
    either (ltb n 10) _ _ (suc (suc d)) (omega arith) (simp length-append (omega arith))

pub number_short : (n : ℕ) → length (decimal n) ≤ 20
number_short n = number_in 19 n

pub hex_long : (d n : ℕ) → length (hex_in d n) ≡ d
unfolding hex_in
hex_long zero n = refl
hex_long (suc d) n = let i = hex_long d (n / 16) in simp length-append (omega arith)

-- ten to the k + 1
abbrev ten : ℕ → ℕ
ten zero = 10
ten (suc k) = 10 * ten k

pub digits : (k d n : ℕ) → n < ten k → length (decimal_in d n) ≤ suc k
unfolding decimal_in
digits k zero n h = omega arith
digits zero (suc d) n h = simp (lt-ltb n 10 h) (omega arith)
digits (suc k) (suc d) n h =
    let i = digits k d (n / 10) (omega arith) in
    either (ltb n 10) _ _ (suc (suc k)) (omega arith) (simp length-append (omega arith))

pub register_short : (r : ℕ) → length (register r) ≤ 21
unfolding ascii register
register_short r =
    let i = number_short r in
    either (eqb r 64) _ _ 21 (lit≤ tt) (either (eqb r 65) _ _ 21 (lit≤ tt) (omega arith))

pub refusal_short : (number index : ℕ) → length (refusal_line number index) ≤ 80
unfolding ascii refusal_line
refusal_short number index =
    let d = number_short number in
    let e = number_short index in
    let w = name_short 16 refusal_words tt number in
    simp length-append (omega arith)

pub lowered_short : (number index bytes constants : ℕ) → length (lowered_line number index bytes constants) ≤ 80
unfolding ascii lowered_line
lowered_short number index bytes constants =
    let d = number_short index in
    let e = number_short bytes in
    let f = number_short constants in
    either (eqb number 0) _ _ 80 (simp length-append (omega arith)) (refusal_short number index)

pub played_short : (number index played : ℕ) → length (played_line number index played) ≤ 80
unfolding ascii played_line
played_short number index played =
    let d = number_short index in
    let e = number_short played in
    either (eqb number 0) _ _ 80 (simp length-append (omega arith)) (refusal_short number index)

word_short : (index : ℕ) → length (word_name index) ≤ 29
unfolding ascii word_name
word_short index =
    mir.either (ltb index 66)
    (λ t.
    let r = register_short index in
    simp t (omega arith))
    (λ t.
    let c = name_short 5 class_names tt ((index - 66) / 512) in
    let d = number_short ((index - 66) % 512 / 2) in
    let e = name_short 2 half_names tt ((index - 66) % 2) in
    simp (t, length-append) (omega arith))

pub difference_short : (index one other : ℕ) → length (difference_line index one other) ≤ 80
unfolding difference_line
difference_short index one other = let n = word_short index in simp length-append (omega (arith, n, hex_long 16 one, hex_long 16 other))

pub word_line_short : (index word : ℕ) → length (word_line index word) ≤ 80
unfolding word_line
word_line_short index word = let n = word_short index in simp length-append (omega (arith, n, hex_long 16 word))

pub more_short : (n : ℕ) → length (more_text n) ≤ 80
unfolding ascii more_text
more_short n = let d = number_short n in simp length-append (omega (arith, d))
