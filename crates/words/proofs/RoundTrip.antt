-- Words to bytes and back: nothing is lost either way.
use Prim.Native.Nat.{ℕ, zero, suc, ◌+◌, ◌*◌, ◌/◌, ◌%◌, ◌^◌, ◌<◌}
use mathlib.Core.Path.{◌≡◌, refl, sym, ap, ◌∙◌}
use mathlib.Core.List.{List, [], ◌∷◌, ◌++◌}
use native.Mathlib.Nat.{pow-suc}
use native.Mathlib.Omega.{arith}
use lib.ListN.{length, take, drop, get_or, length-drop, take-append-drop}
use lib.Seq.{get_or-take, get_or-drop, length-take-le}
use Rattle.words.specs.Bytes.{bytes, number, bytes_of, words, words_of}

pub number_bytes : (n w : ℕ) → w < 256 ^ n → number (bytes n w) ≡ w
unfolding number bytes
number_bytes zero w h = omega arith
number_bytes (suc n) w h =
    let p = pow-suc 256 n in
    let i = number_bytes n (w / 256) (omega arith) in
    omega arith

pub bytes_number : (s : List ℕ) → ((i : ℕ) → i < length s → get_or s i 0 < 256) → bytes (length s) (number s) ≡ s
unfolding number bytes
bytes_number [] h = refl
bytes_number (b ∷ s) h =
    let k : b < 256 = h 0 (omega arith) in
    let e : (b + 256 * number s) % 256 ≡ b = omega arith in
    let f : (b + 256 * number s) / 256 ≡ number s = omega arith in
    rw (e, f) (ap (λ x. b ∷ x) (bytes_number s (λ i l. h (suc i) (omega arith))))

pub words_bytes_of : (ws : List ℕ) → ((i : ℕ) → i < length ws → get_or ws i 0 < 256 ^ 8) → words (length ws) (bytes_of ws) ≡ ws
unfolding words bytes_of
words_bytes_of [] h = refl
words_bytes_of (w ∷ ws) h =
    λ i. number_bytes 8 w (h 0 (omega arith)) i ∷ words_bytes_of ws (λ j l. h (suc j) (omega arith)) i

bytes_of_words : (n : ℕ) (s : List ℕ) → length s ≡ 8 * n → ((i : ℕ) → i < length s → get_or s i 0 < 256) → bytes_of (words n s) ≡ s
unfolding words bytes_of
bytes_of_words zero [] e h = refl
bytes_of_words zero (b ∷ s) e h = absurd (omega arith)
bytes_of_words (suc n) s e h =
    let m = length-drop 8 s in
    let k : length (take 8 s) ≡ 8 = length-take-le 8 s (omega arith) in
    let front : bytes 8 (number (take 8 s)) ≡ take 8 s =
    sym (ap (λ x. bytes x (number (take 8 s))) k)
    ∙ bytes_number (take 8 s) (λ i l. rw (get_or-take 8 s i 0 (omega arith)) (h i (omega arith))) in
    let rest : bytes_of (words n (drop 8 s)) ≡ drop 8 s =
    bytes_of_words n (drop 8 s) (omega arith) (λ i l. rw (get_or-drop 8 s i 0) (h (8 + i) (omega arith))) in
    (λ i. front i ++ rest i) ∙ take-append-drop 8 s

-- bytes that are whole words are their words' bytes
pub bytes_of-words_of : (s : List ℕ) → length s % 8 ≡ 0 → ((i : ℕ) → i < length s → get_or s i 0 < 256) → bytes_of (words_of s) ≡ s
unfolding words_of
bytes_of-words_of s h below = bytes_of_words (length s / 8) s (omega (arith, h)) below
