-- Loops over words and bytes: the word of eight bytes, one turn of each loop, and nothing left at its end.
use Prim.Native.Nat.{ℕ, zero, suc, ◌+◌, ◌*◌, ◌/◌, ◌%◌, ◌≤◌, ◌<◌}
use mathlib.Core.Path.{◌≡◌, refl, sym, ap, ◌∙◌}
use mathlib.Core.List.{List, [], ◌∷◌, map}
use native.Mathlib.Numerals.{add-one}
use native.Mathlib.Nat.{add-suc}
use native.Mathlib.Omega.{arith}
use lib.ListN.{length, take, drop, get_or, set, drop_of_length-le}
use lib.Seq.{sets, take-nil, drop-cons, take-take}
use Rattle.std.proofs.Common.{lit≤}
use Rattle.std.specs.Int.{w64, from_le_bytes, to_le_bytes}
use Rattle.std.specs.Simd.{first_chunks}
use Rattle.words.specs.Bytes.{bytes, number, bytes_of, words}
use Rattle.words.proofs.Lengths.{length_bytes, sets-append}

-- the byte at k is the lowest of those from k on
number_at : (n k : ℕ) (s : List ℕ) → number (take (suc n) (drop k s)) ≡ get_or s k 0 + 256 * number (take n (drop (suc k) s))
unfolding number
number_at n zero [] = simp take-nil
number_at n zero (b ∷ s) = refl
number_at n (suc k) [] = simp take-nil
number_at n (suc k) (b ∷ s) = number_at n k s

number-none : number [] ≡ 0
unfolding number
number-none = refl

eight_bytes : (s : List ℕ) → number (take 8 s)
    ≡ get_or s 0 0 + 256 * get_or s 1 0 + 65536 * get_or s 2 0 + 16777216 * get_or s 3 0 + 4294967296 * get_or s 4 0
    + 1099511627776 * get_or s 5 0 + 281474976710656 * get_or s 6 0 + 72057594037927936 * get_or s 7 0
eight_bytes s =
    omega (arith, number_at 7 0 s, number_at 6 1 s, number_at 5 2 s, number_at 4 3 s, number_at 3 4 s, number_at 2 5 s, number_at 1 6 s, number_at 0 7 s, number-none)

-- the lower half of a word: its first four bytes
pub low_half : (s : List ℕ) → ((i : ℕ) → get_or s i 0 < 256) → number (take 8 s) % 4294967296 ≡ number (take 4 s)
low_half s h =
    omega (arith, eight_bytes s, number_at 3 0 s, number_at 2 1 s, number_at 1 2 s, number_at 0 3 s, number-none, h 0, h 1, h 2, h 3)

-- the library's word of eight bytes, and its eight bytes of a word
pub le_number : (s : List ℕ) → from_le_bytes w64 s ≡ number (take 8 s)
le_number s = omega (arith, eight_bytes s)

pub le_bytes : (w : ℕ) → to_le_bytes w64 w ≡ bytes 8 w
unfolding bytes
le_bytes w =
    let b : w / 65536 ≡ w / 256 / 256 = omega arith in
    let c : w / 16777216 ≡ w / 256 / 256 / 256 = omega arith in
    let d : w / 4294967296 ≡ w / 256 / 256 / 256 / 256 = omega arith in
    let e : w / 1099511627776 ≡ w / 256 / 256 / 256 / 256 / 256 = omega arith in
    let f : w / 281474976710656 ≡ w / 256 / 256 / 256 / 256 / 256 / 256 = omega arith in
    let g : w / 72057594037927936 ≡ w / 256 / 256 / 256 / 256 / 256 / 256 / 256 = omega arith in
    (λ i. w % 256 ∷ w / 256 % 256 ∷ b i % 256 ∷ c i % 256 ∷ d i % 256 ∷ e i % 256 ∷ f i % 256 ∷ g i % 256 ∷ [])

-- the words of bytes are those of their parts of eight
pub words_from-eights : (n : ℕ) (s : List ℕ) → words n s ≡ map (from_le_bytes w64) (first_chunks 8 n s)
unfolding words
words_from-eights zero s = refl
words_from-eights (suc n) s =
    let e : from_le_bytes w64 (take 8 s) ≡ number (take 8 s) = le_number (take 8 s) ∙ ap number (take-take 8 8 s (lit≤ tt)) in
    (λ i. sym e i ∷ words_from-eights n (drop 8 s) i)

pub save_turn : (l ws : List ℕ) (i : ℕ) → i < length ws
    → sets l (8 * i) (bytes_of (drop i ws)) ≡ sets (sets l (8 * i) (bytes 8 (get_or ws i 0))) (8 * (i + 1)) (bytes_of (drop (i + 1) ws))
unfolding bytes_of
save_turn l ws i h =
    let e : 8 * i + length (bytes 8 (get_or ws i 0)) ≡ 8 * (i + 1) = omega (arith, length_bytes 8 (get_or ws i 0)) in
    ap (λ x. sets l (8 * i) (bytes_of x)) (drop-cons ws i 0 h)
    ∙ sets-append l (bytes 8 (get_or ws i 0)) (bytes_of (drop (suc i) ws)) (8 * i)
    ∙ ap (λ k. sets (sets l (8 * i) (bytes 8 (get_or ws i 0))) k (bytes_of (drop (suc i) ws))) e
    ∙ ap (λ k. sets (sets l (8 * i) (bytes 8 (get_or ws i 0))) (8 * (i + 1)) (bytes_of (drop k ws))) (sym (add-one i))

pub turn : (l s : List ℕ) (at i : ℕ) → i < length s
    → sets l (at + i) (drop i s) ≡ sets (set l (at + i) (get_or s i 0)) (at + (i + 1)) (drop (i + 1) s)
turn l s at i h = rw (drop-cons s i 0 h, add-one i, add-suc at i)

pub ended : (l s : List ℕ) (at i : ℕ) → length s ≤ i → sets l (at + i) (drop i s) ≡ l
ended l s at i h = rw (drop_of_length-le s h)

-- one word more from the start of a table, and none left
pub next_word : (l s : List ℕ) (i w : ℕ) → i < length s → w ≡ get_or s i 0
    → sets (set l i w) (i + 1) (drop (i + 1) s) ≡ sets l i (drop i s)
next_word l s i w h e = rw (drop-cons s i 0 h, add-one i, e)

pub no-word : {X : Type 0} (l : List ℕ) (f : List X → List ℕ) (s : List X) (at i : ℕ) → f [] ≡ [] → length s ≤ i → sets l at (f (drop i s)) ≡ l
no-word l f s at i e h = rw (drop_of_length-le s h, e)
