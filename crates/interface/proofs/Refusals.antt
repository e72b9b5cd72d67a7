-- A call that is refused leaves the store's bytes as they were.
use Prim.Native.Nat.{ℕ, ◌%◌, ◌<◌}
use mathlib.Core.Path.{◌≡◌, refl, ap, ◌∙◌}
use mathlib.Core.Bool.{Bool, true, false, not, cond, ◌||◌, true≢false}
use mathlib.Core.List.{List, [], ◌∷◌}
use native.Mathlib.Omega.{arith}
use borrow.Author.Tests.{eqb-true, not-false}
use lib.ListN.{length, drop, get_or}
use lib.Dec.{ltb, eqb}
use Rattle.records.specs.Record.{records}
use Rattle.player_machine.specs.Machine.{Store, block, play, going}
use Rattle.player_machine.specs.Jumps.{breach}
use Rattle.player_machine.specs.Answer.{Answer, refuse, accept, answer}
use Rattle.words.specs.Bytes.{bytes_of, words_of}
use Rattle.words.proofs.RoundTrip.{bytes_of-words_of}
use Rattle.interface.specs.Calls.{PlayCall, given, play_call}

-- a play that is refused leaves the store as it was
refuse_keeps : (b : Bool) (n i : ℕ) (σ : Store) (a : Answer) → ((a.number ≡ 0 → ⊥) → a.store ≡ σ)
    → ((refuse b n i σ a).number ≡ 0 → ⊥) → (refuse b n i σ a).store ≡ σ
refuse_keeps true n i σ a h k = refl
refuse_keeps false n i σ a h k = h k

answer_keeps : (listing constants : List ℕ) (start : ℕ) (σ : Store) → ((answer listing constants start σ).number ≡ 0 → ⊥)
    → (answer listing constants start σ).store ≡ σ
unfolding answer
answer_keeps listing constants start σ =
    let d = records (length constants) listing in
    let n = length d.items in
    let played = accept n (play constants (block d.items) going (drop start d.items) σ) in
    let jumped = refuse (ltb (breach d.items) n) 9 (breach d.items) σ played in
    let started = refuse (ltb n start) 9 start σ jumped in
    let examined = refuse (not (eqb d.fault 0)) d.fault n σ started in
    let stored = refuse (not (eqb (length σ) 1602)) 8 0 σ examined in
    refuse_keeps (ltb 65536 (length listing)) 8 0 σ (refuse (ltb 256 (length constants)) 8 0 σ stored)
    (refuse_keeps (ltb 256 (length constants)) 8 0 σ stored
    (refuse_keeps (not (eqb (length σ) 1602)) 8 0 σ examined
    (refuse_keeps (not (eqb d.fault 0)) d.fault n σ started
    (refuse_keeps (ltb n start) 9 start σ jumped
    (refuse_keeps (ltb (breach d.items) n) 9 (breach d.items) σ played (λ k. absurd (k refl)))))))

-- its words as bytes are the bytes that were lent
given_keeps : (store : List ℕ) (a : Answer) → length store ≡ 12816 → ((i : ℕ) → i < length store → get_or store i 0 < 256)
    → ((a.number ≡ 0 → ⊥) → a.store ≡ words_of store) → ((given a).number ≡ 0 → ⊥) → (given a).store ≡ store
given_keeps store a e h k r = ap bytes_of (k r) ∙ bytes_of-words_of store (omega (arith, e)) h

by-test : (t : Bool) (a b : PlayCall) {s : List ℕ} → a.store ≡ s → (t ≡ false → (b.number ≡ 0 → ⊥) → b.store ≡ s)
    → ((cond t a b).number ≡ 0 → ⊥) → (cond t a b).store ≡ s
by-test true a b p q = λ _. p
by-test false a b p q = q refl

-- neither test holds: the second does not
second : (a b : Bool) → a || not b ≡ false → b ≡ true
second true b h = absurd (true≢false h)
second false b h = not-false b h

pub call_keeps : (listing constants store : List ℕ) (start : ℕ) (lent : List ℕ) → ((i : ℕ) → i < length store → get_or store i 0 < 256)
    → ((play_call listing constants store start lent).number ≡ 0 → ⊥) → (play_call listing constants store start lent).store ≡ store
unfolding play_call
call_keeps listing constants store start lent h =
    let played = given (answer listing (words_of constants) start (words_of store)) in
    let wrong : PlayCall = record { number = 8; store = store; answer = bytes_of (8 ∷ 0 ∷ 0 ∷ []) } in
    let untouched : PlayCall = record { number = 8; store = store; answer = lent } in
    let other = not (eqb (length constants % 8) 0) || not (eqb (length store) 12816) in
    by-test (not (eqb (length lent) 24)) untouched (cond other wrong played) refl
    (λ _. by-test other wrong played refl
    (λ e. given_keeps store (answer listing (words_of constants) start (words_of store)) (eqb-true (length store) 12816 (second (not (eqb (length constants % 8) 0)) (eqb (length store) 12816) e)) h (answer_keeps listing (words_of constants) start (words_of store))))
