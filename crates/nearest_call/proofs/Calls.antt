-- What the call gives, by its tests.
use Prim.Native.Nat.{ℕ, ◌*◌, ◌%◌}
use mathlib.Core.Path.{◌≡◌, refl, sym, ap, ◌∙◌}
use mathlib.Core.List.{List, [], ◌∷◌}
use lib.ListN.{length}
use borrow.Author.Tests.{eq-eqb, ne_eqb}
use Rattle.words.specs.Bytes.{bytes_of, words_of, stored}
use Rattle.words.proofs.Lengths.{length-bytes_of}
use Rattle.words.proofs.Stored.{stored_whole}
use Rattle.nearest.specs.Nearest.{Values, nearest}
use Rattle.nearest_call.specs.Call.{NearestCall, numbers, nearest_call}

module _ (re im : ℕ) (points lent : List ℕ) (whole-answer : length lent ≡ 24) where
  -- three numbers fill the answer
  written : (v : List ℕ) → length v ≡ 3 → stored lent 0 (bytes_of v) ≡ bytes_of v
  written v h = stored_whole lent (bytes_of v) (length-bytes_of v ∙ ap (λ n. 8 * n) h ∙ sym whole-answer)

  pub wrong-points : {r : List ℕ} → (length points % 8 ≡ 0 → ⊥) → r ≡ stored lent 0 (bytes_of (8 ∷ 0 ∷ 0 ∷ []))
      → record { number = 8; answer = r } ≡ nearest_call re im points lent
  unfolding nearest_call
  wrong-points h e =
      simp (eq-eqb _ _ whole-answer, ne_eqb _ _ h)
      (ap (λ x. record { number = 8; answer = x }) (e ∙ written (8 ∷ 0 ∷ 0 ∷ []) refl))

  abbrev call : Values → NearestCall
  call v = record { number = v.number; answer = bytes_of (numbers v) }

  pub given : {n : ℕ} {t r : List ℕ} (v : Values) → length points % 8 ≡ 0 → v ≡ nearest re im (words_of points) → n ≡ v.number
      → t ≡ numbers v → r ≡ stored lent 0 (bytes_of t) → record { number = n; answer = r } ≡ nearest_call re im points lent
  unfolding nearest_call
  given v h e en et er =
      simp (eq-eqb _ _ whole-answer, eq-eqb _ _ h)
      ((λ j. record { number = en j; answer = (er ∙ ap (λ u. stored lent 0 (bytes_of u)) et ∙ written (numbers v) refl) j }) ∙ ap call e)
