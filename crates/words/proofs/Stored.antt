-- A list stored over another: where there is room, where there is none, and where it fills the other.
use Prim.Native.Nat.{ℕ, ◌+◌, ◌/◌, ◌≤◌, ◌<◌}
use mathlib.Core.Path.{◌≡◌, sym, ap, ◌∙◌}
use mathlib.Core.List.{List, ◌++◌, append_assoc}
use native.Mathlib.Omega.{arith}
use lib.ListN.{length, take, drop}
use lib.Seq.{sets, sets-eq, drop-drop}
use borrow.Rule.Slice.PartMut.{put_mid}
use borrow.Author.Tests.{le-leb, lt-leb}
use Rattle.words.specs.Bytes.{stored, words_of}
use Rattle.words.proofs.Lengths.{length-words_of, sets_whole, sets_front}

pub stored_fits : {X : Type 0} (l : List X) (at : ℕ) (v : List X) → at + length v ≤ length l → stored l at v ≡ sets l at v
unfolding stored
stored_fits l at v h = simp (le-leb _ _ h)

pub stored_full : {X : Type 0} (l : List X) (at : ℕ) (v : List X) → length l < at + length v → stored l at v ≡ l
unfolding stored
stored_full l at v h = simp (lt-leb _ _ h)

pub stored_whole : {X : Type 0} (l v : List X) → length v ≡ length l → stored l 0 v ≡ v
stored_whole l v h = stored_fits l 0 v (omega arith) ∙ sets_whole l v h

pub stored_front : {X : Type 0} (l v : List X) (n : ℕ) → length v ≡ n → n ≤ length l → take n (stored l 0 v) ≡ v
stored_front l v n h k = ap (take n) (stored_fits l 0 v (omega arith)) ∙ sets_front l v n h k

-- the words that were loaded are those of the bytes
pub loaded : (l s : List ℕ) {t : List ℕ} → t ≡ stored l 0 (words_of s) → length s / 8 ≤ length l → take (length s / 8) t ≡ words_of s
loaded l s e h = ap (take (length s / 8)) e ∙ stored_front l (words_of s) (length s / 8) (length-words_of s) h

-- a list copied over the part of another from a position on
pub stored_part : {X : Type 0} (l : List X) (at : ℕ) (v w : List X) (n : ℕ) → w ≡ v → n ≡ length v → at + length v ≤ length l → put_mid at n l w ≡ stored l at v
stored_part l at v w n e k h =
    (λ i. put_mid at (k i) l (e i))
    ∙ ap (λ r. take at l ++ (v ++ r)) (drop-drop (length v) at l)
    ∙ sym (append_assoc (take at l) v (drop (at + length v) l))
    ∙ sym (sets-eq v l at h)
    ∙ sym (stored_fits l at v h)
