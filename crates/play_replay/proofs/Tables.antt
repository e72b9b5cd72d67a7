-- Words set one after the other. Assumes nothing.
use Prim.Native.Nat.{ℕ, ◌+◌, ◌*◌}
use mathlib.Core.List.{List}
use mathlib.Core.Path.{◌≡◌, refl, ap, ◌∙◌}
use native.Mathlib.Numerals.{add-one}
use lib.ListN.{set}
use Rattle.words.specs.Bytes.{word_at}
use Rattle.replay.specs.Numbers.{u32_at}
use Rattle.play_replay.specs.Case.{patched}

pub patched_none : (s : List ℕ) (at : ℕ) (l : List ℕ) → l ≡ patched s at l 0
unfolding patched
patched_none s at l = refl

pub patched_all : (s : List ℕ) (at : ℕ) (l₀ : List ℕ) (i n : ℕ) {l : List ℕ} → l ≡ patched s at l₀ i → i ≡ n → l ≡ patched s at l₀ n
patched_all s at l₀ i n e h = e ∙ ap (patched s at l₀) h

pub patched_next : (s : List ℕ) (at : ℕ) (l₀ : List ℕ) (i : ℕ) {l last : List ℕ} {k w : ℕ}
    → l ≡ patched s at l₀ i
    → k ≡ u32_at s (at + 12 * i)
    → w ≡ word_at s (at + 12 * i + 4)
    → last ≡ set l k w
    → last ≡ patched s at l₀ (i + 1)
unfolding patched
patched_next s at l₀ i e hk hw h = rw add-one (rw (e, hk, hw) at h)
