-- How long words and their bytes are, and lists that replace the beginning of another.
use Prim.Native.Nat.{ℕ, zero, suc, ◌+◌, ◌*◌, ◌/◌, ◌≤◌}
use mathlib.Core.Path.{◌≡◌, refl, sym, ap, ◌∙◌}
use mathlib.Core.List.{List, [], ◌∷◌, ◌++◌, append-nil, append_assoc}
use native.Mathlib.Nat.{add-zero}
use native.Mathlib.Omega.{arith}
use lib.ListN.{length, take, drop, set, length-append, drop_of_length-le}
use lib.Seq.{sets, sets-eq, take_at, drop-nil, drop-append-add}
use Rattle.words.specs.Bytes.{bytes, bytes_of, words, words_of}

pub length_bytes : (n w : ℕ) → length (bytes n w) ≡ n
unfolding bytes
length_bytes zero w = refl
length_bytes (suc n) w = ap suc (length_bytes n _)

pub length-bytes_of : (ws : List ℕ) → length (bytes_of ws) ≡ 8 * length ws
unfolding bytes_of
length-bytes_of [] = refl
length-bytes_of (w ∷ ws) = length-append (bytes 8 w) (bytes_of ws) ∙ omega (arith, length_bytes 8 w, length-bytes_of ws)

pub length_words : (n : ℕ) (s : List ℕ) → length (words n s) ≡ n
unfolding words
length_words zero s = refl
length_words (suc n) s = ap suc (length_words n _)

pub length-words_of : (s : List ℕ) → length (words_of s) ≡ length s / 8
unfolding words_of
length-words_of s = length_words (length s / 8) s

pub sets-append : {X : Type 0} (l a b : List X) (i : ℕ) → sets l i (a ++ b) ≡ sets (sets l i a) (i + length a) b
sets-append l [] b i = ap (λ k. sets l k b) (sym (add-zero i))
sets-append l (x ∷ a) b i =
    let e : suc i + length a ≡ i + suc (length a) = omega arith in
    sets-append (set l i x) a b (suc i) ∙ ap (λ k. sets (sets (set l i x) (suc i) a) k b) e

pub sets_whole : {X : Type 0} (l v : List X) → length v ≡ length l → sets l 0 v ≡ v
sets_whole l v h =
    let k : length l ≤ 0 + length v = omega arith in
    sets-eq v l 0 (omega arith) ∙ ap (λ r. v ++ r) (drop_of_length-le l k) ∙ append-nil v

pub sets_front : {X : Type 0} (l v : List X) (n : ℕ) → length v ≡ n → n ≤ length l → take n (sets l 0 v) ≡ v
sets_front l v n h k = ap (take n) (sets-eq v l 0 (omega arith)) ∙ take_at v _ n h

bytes_of-append : (a b : List ℕ) → bytes_of (a ++ b) ≡ bytes_of a ++ bytes_of b
unfolding bytes_of
bytes_of-append [] b = refl
bytes_of-append (w ∷ a) b = ap (λ r. bytes 8 w ++ r) (bytes_of-append a b) ∙ sym (append_assoc (bytes 8 w) (bytes_of a) (bytes_of b))

-- the bytes from a word on
bytes_of-drop : (n : ℕ) (ws : List ℕ) → drop (8 * n) (bytes_of ws) ≡ bytes_of (drop n ws)
unfolding bytes_of
bytes_of-drop zero ws = refl
bytes_of-drop (suc n) [] = drop-nil (8 * suc n)
bytes_of-drop (suc n) (w ∷ ws) =
    let e : 8 * suc n ≡ length (bytes 8 w) + 8 * n = omega (arith, length_bytes 8 w) in
    ap (λ k. drop k (bytes 8 w ++ bytes_of ws)) e ∙ drop-append-add (bytes 8 w) (bytes_of ws) (8 * n) ∙ bytes_of-drop n ws

-- words that replace the first ones, as bytes
pub bytes_of-sets : (ws vs : List ℕ) → length vs ≤ length ws → bytes_of (sets ws 0 vs) ≡ sets (bytes_of ws) 0 (bytes_of vs)
bytes_of-sets ws vs h =
    let m = length-bytes_of vs in
    let n = length-bytes_of ws in
    let e : 0 + length (bytes_of vs) ≡ 8 * (0 + length vs) = omega (arith, m) in
    ap bytes_of (sets-eq vs ws 0 (omega arith))
    ∙ bytes_of-append vs (drop (0 + length vs) ws)
    ∙ ap (λ r. bytes_of vs ++ r) (sym (bytes_of-drop (0 + length vs) ws) ∙ ap (λ k. drop k (bytes_of ws)) (sym e))
    ∙ sym (sets-eq (bytes_of vs) (bytes_of ws) 0 (omega (arith, m, n)))
