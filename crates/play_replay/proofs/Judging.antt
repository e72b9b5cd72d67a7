-- The parts of a case, from what the functions that make them give. Assumes nothing.
use Prim.Native.Nat.{ℕ, ◌+◌, ◌*◌, ◌-◌, ◌≤◌}
use mathlib.Core.List.{List}
use mathlib.Core.Path.{◌≡◌, ap, ◌∙◌}
use native.Mathlib.Omega.{arith}
use lib.ListN.{length, take, drop, replicate, length-drop}
use lib.Seq.{length-take-le}
use Rattle.player_machine.specs.Answer.{Answer, answer}
use Rattle.words.specs.Bytes.{word_at, words_of, stored}
use Rattle.words.proofs.Lengths.{length-words_of}
use Rattle.words.proofs.Stored.{stored_whole}
use Rattle.replay.specs.Numbers.{u32_at}
use Rattle.replay.proofs.Parts.{take-replicate}
use Rattle.play_replay.specs.Case.{patched, constants_at, fill_at, changed_at, listing, constants, filled, before, after, answered}

module _ (s : List ℕ) where
  pub loaded : (l₀ : List ℕ) {l : List ℕ} {k end : ℕ}
      → k ≡ u32_at s 0
      → end ≡ fill_at s
      → length l₀ ≡ u32_at s 4
      → fill_at s ≤ length s
      → l ≡ stored l₀ 0 (words_of (take (end - (48 + k)) (drop (48 + k) s)))
      → l ≡ constants s
  unfolding constants
  loaded l₀ {l} {k} {end} hk he hl hs h =
      let n : end - (48 + k) ≡ 8 * u32_at s 4 = omega arith in
      let b = take (8 * u32_at s 4) (drop (constants_at s) s) in
      let m : length b ≡ 8 * u32_at s 4 = length-take-le (8 * u32_at s 4) (drop (constants_at s) s) (simp length-drop (omega arith)) in
      let w : length (words_of b) ≡ length l₀ = omega (arith, length-words_of b) in
      h ∙ (ap (λ (j : ℕ). stored l₀ 0 (words_of (take j (drop (48 + k) s)))) n
      ∙ (ap (λ (j : ℕ). stored l₀ 0 (words_of (take (8 * u32_at s 4) (drop (48 + j) s)))) hk ∙ stored_whole l₀ (words_of b) w))

  pub is-filled : {n w f : ℕ} → n ≡ u32_at s 8 → n ≤ 1603 → f ≡ fill_at s → w ≡ word_at s f → take n (replicate 1603 w) ≡ filled s
  unfolding filled
  is-filled {n} {w} hn h hf hw = take-replicate n 1603 w h ∙ rw (hn, hw, hf)

  pub made-before : {l m : List ℕ} {at n : ℕ} → m ≡ filled s → at ≡ fill_at s → n ≡ u32_at s 12 → l ≡ patched s (at + 8) m n → l ≡ before s
  unfolding before
  made-before hm ha hn hl = rw (hl, hm, ha, hn)

  pub made_after : {l m : List ℕ} {at n : ℕ} → m ≡ before s → at ≡ changed_at s → n ≡ u32_at s 16 → l ≡ patched s at m n → l ≡ after s
  unfolding after
  made_after hm ha hn hl = rw (hl, hm, ha, hn)

  pub is-answered : {a : Answer} {c b : List ℕ} {k start : ℕ}
      → k ≡ u32_at s 0
      → c ≡ constants s
      → start ≡ word_at s 20
      → b ≡ before s
      → a ≡ answer (take (48 + k - 48) (drop 48 s)) c start b
      → a ≡ answered s
  unfolding answered listing
  is-answered {a} {c} {b} {k} hk hc hs hb ha =
      let e : 48 + k - 48 ≡ k = omega arith in
      rw (ha, e, hk, hc, hs, hb)
