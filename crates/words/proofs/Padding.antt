-- A word read at any position: bytes that are missing count as 0.
use Prim.Native.Nat.{ℕ, zero, suc, ◌+◌, ◌*◌, ◌-◌, ◌≤◌}
use mathlib.Core.Path.{◌≡◌, refl, sym, ap, ◌∙◌}
use mathlib.Core.List.{List, [], ◌∷◌, ◌++◌}
use native.Mathlib.Omega.{arith}
use lib.ListN.{length, take, drop, replicate, length-drop, drop_of_length-le}
use lib.Seq.{sets, sets-eq, take_all, length-sets}
use Rattle.words.specs.Bytes.{number, word_at, stored}
use Rattle.words.proofs.Stored.{stored_fits}

number_zeros : (k n : ℕ) → number (drop k (replicate n 0)) ≡ 0
unfolding number
number_zeros zero zero = refl
number_zeros zero (suc n) = omega (arith, number_zeros zero n)
number_zeros (suc k) zero = refl
number_zeros (suc k) (suc n) = number_zeros k n

number_append : (s : List ℕ) (k n : ℕ) → number (s ++ drop k (replicate n 0)) ≡ number s
unfolding number
number_append [] k n = number_zeros k n
number_append (b ∷ s) k n = ap (λ x. b + 256 * x) (number_append s k n)

-- at most eight bytes, put over eight zeros
pub padded : (s : List ℕ) {t : List ℕ} {w : ℕ} → length s ≤ 8 → t ≡ stored (replicate 8 0) 0 s → w ≡ number (take 8 t) → w ≡ number (take 8 s)
padded s {t} h e f =
    let p : sets (replicate 8 0) 0 s ≡ s ++ drop (0 + length s) (replicate 8 0) = sets-eq s (replicate 8 0) 0 (omega arith) in
    let n = length-sets (replicate 8 0) 0 s in
    f ∙ ap (λ x. number (take 8 x)) (e ∙ stored_fits (replicate 8 0) 0 s (omega arith)) ∙ ap number (take_all 8 (sets (replicate 8 0) 0 s) (omega (arith, n)) ∙ p)
    ∙ number_append s (0 + length s) 8
    ∙ sym (ap number (take_all 8 s h))

-- the bytes from a position on
pub from : (s : List ℕ) (at : ℕ) {w : ℕ} → w ≡ number (take 8 (take (length s - at) (drop at s))) → w ≡ word_at s at
unfolding word_at
from s at e = e ∙ ap (λ x. number (take 8 x)) (take_all (length s - at) (drop at s) (omega (arith, length-drop at s)))

pub past : (s : List ℕ) (at : ℕ) → length s ≤ at → word_at s at ≡ 0
unfolding word_at
past s at h = simp (drop_of_length-le s h)
