-- The running peak over words and over bytes. Assumes nothing.
use Prim.Native.Nat.{ℕ, ◌+◌, ◌/◌, ◌%◌, ◌≤◌, ◌<◌}
use mathlib.Core.Path.{◌≡◌, refl, sym, ap, ◌∙◌}
use mathlib.Core.Logic.{◌⊎◌, inl, inr}
use mathlib.Core.Bool.{true, ◌||◌}
use mathlib.Core.List.{List, ◌++◌}
use native.Mathlib.Omega.{arith}
use lib.ListN.{length, take, drop, get_or}
use lib.Dec.{eqb, ltb}
use lib.Seq.{sets, sets-eq, take_at}
use borrow.Author.Tests.{eq-eqb, lt-ltb, le-ltb}
use Rattle.words.specs.Bytes.{bytes_of, words_of, stored}
use Rattle.words.proofs.Lengths.{length-bytes_of, length-words_of, bytes_of-sets}
use Rattle.words.proofs.RoundTrip.{bytes_of-words_of}
use Rattle.words.proofs.Stored.{stored_fits, stored_front}
use Rattle.peak.specs.Peak.{refused, number, after, filled, peaks}
use Rattle.peak.proofs.Windows.{length-peaks}
use Rattle.peak.proofs.Refusals.{or_left, or_right, turned-away, taken, away-told, taken-told}
use Rattle.peak_call.specs.PeakCall.{peak_call}

-- the words of the run, at the front of the table that they are loaded into
pub loaded : (run table : List ℕ) {t : List ℕ} → t ≡ stored table 0 (words_of run) → length run / 8 ≤ length table
    → take (length run / 8) t ≡ words_of run
loaded run table e h = ap (take (length run / 8)) e ∙ stored_front table (words_of run) (length run / 8) (length-words_of run) h

module _ (run : List ℕ) (w : ℕ) (out : List ℕ) (whole_run : length run % 8 ≡ 0) (whole_out : length out % 8 ≡ 0)
    (below : (i : ℕ) → i < length out → get_or out i 0 < 256) where
  call-words : peak_call run w out ≡ record { number = number (words_of run) w (words_of out); out = bytes_of (after (words_of run) w (words_of out)) }
  unfolding peak_call
  call-words = simp (eq-eqb _ _ whole_run, eq-eqb _ _ whole_out)

  -- what is turned away leaves the bytes as lent
  away : refused (words_of run) w (words_of out) ≡ true → record { number = 12; out = out } ≡ peak_call run w out
  away e =
      let p = turned-away (words_of run) w (words_of out) e in
      let o = sym (bytes_of-words_of out whole_out below) ∙ ap bytes_of p.1 in
      (λ i. record { number = p.0 i; out = o i }) ∙ sym call-words

  -- too long a run, and too short an output, by their bytes
  pub wrong-length : (32768 < length run) ⊎ (length out < length run) → record { number = 12; out = out } ≡ peak_call run w out
  unfolding refused
  wrong-length h = away (or_right (eqb w 0 || ltb 64 w) (long h))
    where
      long : (32768 < length run) ⊎ (length out < length run) → ltb 4096 (length (words_of run)) || ltb (length (words_of out)) (length (words_of run)) ≡ true
      long (inl l) =
          or_left (ltb (length (words_of out)) (length (words_of run)))
          (lt-ltb 4096 (length (words_of run)) (omega (arith, length-words_of run, whole_run)))
      long (inr l) =
          or_right (ltb 4096 (length (words_of run)))
          (lt-ltb (length (words_of out)) (length (words_of run)) (omega (arith, length-words_of run, length-words_of out, whole_run, whole_out)))

  module _ (short : length run ≤ 32768) (room : length run ≤ length out) (zeros : List ℕ) (z : length zeros ≡ 4096) where
    -- where both have room for the run, an output is turned away where the other is
    same : refused (words_of run) w zeros ≡ refused (words_of run) w (words_of out)
    unfolding refused
    same =
        ap (λ t. (eqb w 0 || ltb 64 w) || (ltb 4096 (length (words_of run)) || t))
        (le-ltb (length zeros) (length (words_of run)) (omega (arith, length-words_of run))
        ∙ sym (le-ltb (length (words_of out)) (length (words_of run)) (omega (arith, length-words_of run, length-words_of out))))

    pub refused-words : {n : ℕ} → n ≡ number (words_of run) w zeros → (n ≡ 0 → ⊥) → record { number = n; out = out } ≡ peak_call run w out
    refused-words e h =
        let p = away-told (words_of run) w zeros e h in
        ap (λ n. record { number = n; out = out }) p.1 ∙ away (sym same ∙ p.0)

    -- the peaks stored over the output's bytes are the output's words after, as bytes
    over : (n : ℕ) → n ≡ length (words_of run)
        → stored out 0 (bytes_of (peaks (words_of run) w n)) ≡ bytes_of (filled (words_of run) w n (words_of out))
    unfolding filled
    over n e =
        let ps = peaks (words_of run) w n in
        let l : length ps ≡ n = length-peaks (words_of run) w n in
        let few : length ps ≤ length (words_of out) = omega (arith, length-words_of run, length-words_of out) in
        let k : 0 + length ps ≡ n = omega arith in
        stored_fits out 0 (bytes_of ps) (omega (arith, length-bytes_of ps, length-words_of run))
        ∙ ap (λ x. sets x 0 (bytes_of ps)) (sym (bytes_of-words_of out whole_out below))
        ∙ sym (bytes_of-sets (words_of out) ps few)
        ∙ ap bytes_of (sets-eq ps (words_of out) 0 (omega arith) ∙ ap (λ x. ps ++ drop x (words_of out)) k)

    pub given-words : {n : ℕ} {p o : List ℕ} → n ≡ number (words_of run) w zeros → n ≡ 0 → p ≡ after (words_of run) w zeros
        → o ≡ stored out 0 (bytes_of (take (length run / 8) p)) → record { number = n; out = o } ≡ peak_call run w out
    unfolding filled
    given-words {n} {p} {o} e h f g =
        let all = length (words_of run) in
        let ps = peaks (words_of run) w all in
        let t = taken-told (words_of run) w zeros e h in
        let x = taken (words_of run) w zeros t refl in
        let y = taken (words_of run) w (words_of out) (sym same ∙ t) refl in
        let front : take (length run / 8) p ≡ ps =
        ap (take (length run / 8)) (f ∙ sym x.1)
        ∙ take_at ps (drop all zeros) (length run / 8) (length-peaks (words_of run) w all ∙ length-words_of run) in
        let en : n ≡ number (words_of run) w (words_of out) = h ∙ y.0 in
        let eo : o ≡ bytes_of (after (words_of run) w (words_of out)) =
        g ∙ ap (λ v. stored out 0 (bytes_of v)) front ∙ over all refl ∙ ap bytes_of y.1 in
        (λ i. record { number = en i; out = eo i }) ∙ sym call-words
