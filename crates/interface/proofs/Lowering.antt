-- Lowering over words and over bytes: the answer's 260 bytes, the constants' words and the origins' numbers.
use Prim.Native.Nat.{ℕ, suc, ◌+◌, ◌*◌, ◌/◌, ◌%◌, ◌≤◌, ◌<◌}
use mathlib.Core.Path.{◌≡◌, refl, sym, ap, ◌∙◌, subst}
use mathlib.Core.Bool.{cond}
use mathlib.Core.List.{List, [], ◌∷◌, ◌++◌, map, append_assoc}
use native.Mathlib.Nat.{min-le_left}
use native.Mathlib.Omega.{arith}
use lib.ListN.{length, take, drop, get_or, set, length-take, length-append, length-map, drop_of_length-le}
use lib.Seq.{sets, drop-cons}
use borrow.Author.Tests.{eq-eqb, ne_eqb}
use Rattle.mir.specs.Encode.{flag_byte}
use Rattle.mir.proofs.Passing.{either}
use Rattle.lowering.specs.RecordBytes.{record_bytes}
use Rattle.lowering.specs.Lower.{lower_sheet}
use Rattle.lowering.specs.Origins.{origins_of}
use Rattle.lowering.proofs.RecordStored.{length_record, then_stored, both_stored}
use Rattle.complexify.specs.declared.entry.LowerAnswer as Lowered
use Rattle.complexify.specs.Entry as Lower
use Rattle.complexify.proofs.Finished.{right_answer}
use Rattle.complexify.proofs.Within.{within}
use Rattle.words.specs.Bytes.{bytes_of, words_of, stored}
use Rattle.words.proofs.Lengths.{length-bytes_of, length-words_of, sets_front, bytes_of-sets}
use Rattle.words.proofs.RoundTrip.{bytes_of-words_of}
use Rattle.words.proofs.Stored.{stored_fits}
use Rattle.interface.specs.Calls.{LowerCall, lower_answer, pairs_of, unnamed, origins_over, lower_call}

-- the numbers, the record of realness and the marks fill the answer
module _ (a : Lowered.LowerAnswer) (l : List ℕ) (hl : length l ≡ 260) (hr : length a.real.regs ≡ 32) (hp : length a.real.places ≡ 64)
    (hf : length a.filled ≡ 66) (hd : length a.drawn ≡ 66) where
  abbrev numbers : List ℕ
  numbers = bytes_of (a.number ∷ a.index ∷ a.written ∷ a.count ∷ [])

  abbrev filled : List ℕ
  filled = map flag_byte a.filled

  abbrev drawn : List ℕ
  drawn = map flag_byte a.drawn

  pub told : {x r y w : List ℕ} → x ≡ stored l 0 numbers → r ≡ record_bytes a.real → y ≡ stored x 32 r
      → w ≡ stored (stored y 128 filled) 194 drawn → w ≡ lower_answer a
  told {x} {r} {y} e g f q =
      let n : length numbers ≡ 32 = length-bytes_of (a.number ∷ a.index ∷ a.written ∷ a.count ∷ []) in
      let m = length_record a.real hr hp in
      let k : length filled ≡ 66 = length-map a.filled flag_byte ∙ hf in
      let d : length drawn ≡ 66 = length-map a.drawn flag_byte ∙ hd in
      let both : length (numbers ++ record_bytes a.real) ≡ 128 = omega (arith, n, m, length-append numbers (record_bytes a.real)) in
      let three : length ((numbers ++ record_bytes a.real) ++ filled) ≡ 194 = omega (arith, both, k, length-append (numbers ++ record_bytes a.real) filled) in
      let second : y ≡ sets l 0 (numbers ++ record_bytes a.real) =
      f ∙ ap (stored x 32) g ∙ then_stored l numbers (record_bytes a.real) 32 n (omega (arith, m, hl)) (e ∙ stored_fits l 0 numbers (omega (arith, n, hl))) in
      let third : stored y 128 filled ≡ sets l 0 ((numbers ++ record_bytes a.real) ++ filled) =
      then_stored l (numbers ++ record_bytes a.real) filled 128 both (omega (arith, k, hl)) second in
      q
      ∙ both_stored l ((numbers ++ record_bytes a.real) ++ filled) drawn 194 three (omega (arith, d, hl)) third
      ∙ append_assoc (numbers ++ record_bytes a.real) filled drawn
      ∙ append_assoc numbers (record_bytes a.real) (filled ++ drawn)

module _ (sheet listing constants origins lent : List ℕ) (whole-answer : length lent ≡ 260) where
  abbrev call : ℕ → List ℕ → List ℕ → List ℕ → List ℕ → LowerCall
  call n l c o r = record { number = n; listing = l; constants = c; origins = o; answer = r }

  pub wrong-constants : {a : Lowered.LowerAnswer} {r : List ℕ} → (length constants ≡ 2048 → ⊥) → a ≡ Lower.refused_setup → r ≡ lower_answer a
      → call 8 listing constants origins r ≡ lower_call sheet listing constants origins lent
  unfolding lower_call
  wrong-constants h d e = simp (eq-eqb _ _ whole-answer, ne_eqb _ _ h) (ap (call 8 listing constants origins) (e ∙ ap lower_answer d))

  pub wrong-origins : {a : Lowered.LowerAnswer} {r : List ℕ} → length constants ≡ 2048 → (length origins ≡ 512 → ⊥) → a ≡ Lower.refused_setup → r ≡ lower_answer a
      → call 8 listing constants origins r ≡ lower_call sheet listing constants origins lent
  unfolding lower_call
  wrong-origins k h d e =
      simp (eq-eqb _ _ whole-answer, eq-eqb _ _ k, ne_eqb _ _ h) (ap (call 8 listing constants origins) (e ∙ ap lower_answer d))

  pub lowered : {a : Lowered.LowerAnswer} {s c o r : List ℕ} → length constants ≡ 2048 → length origins ≡ 512
      → a ≡ Lower.answer sheet listing (words_of constants) unnamed → s ≡ Lower.listing_after sheet listing (words_of constants) unnamed
      → c ≡ bytes_of (Lower.constants_after sheet listing (words_of constants) unnamed) → o ≡ origins_over sheet listing (words_of constants) origins
      → r ≡ lower_answer a → call a.number s c o r ≡ lower_call sheet listing constants origins lent
  unfolding lower_call
  lowered h k ea es ec eo g =
      let er = g ∙ ap lower_answer ea in
      simp (eq-eqb _ _ whole-answer, eq-eqb _ _ h, eq-eqb _ _ k) (λ i. call (ea i).number (es i) (ec i) (eo i) (er i))

-- a number's two bytes, put in their place
pub pairs_turn : (l ns : List ℕ) (i : ℕ) → i < length ns
    → sets l (2 * i) (pairs_of (drop i ns))
    ≡ sets (set (set l (2 * i) (get_or ns i 0 % 256)) (2 * i + 1) (get_or ns i 0 / 256 % 256)) (2 * (i + 1)) (pairs_of (drop (i + 1) ns))
unfolding pairs_of
pairs_turn l ns i h =
    let n = get_or ns i 0 in
    let e : suc (2 * i) ≡ 2 * i + 1 = omega arith in
    let f : suc (suc (2 * i)) ≡ 2 * (i + 1) = omega arith in
    let g : suc i ≡ i + 1 = omega arith in
    ap (λ x. sets l (2 * i) (pairs_of x)) (drop-cons ns i 0 h)
    ∙ (λ j. sets (set (set l (2 * i) (n % 256)) (e j) (n / 256 % 256)) (f j) (pairs_of (drop (g j) ns)))

pub pairs_ended : (l ns : List ℕ) (i : ℕ) → length ns ≤ i → sets l (2 * i) (pairs_of (drop i ns)) ≡ l
unfolding pairs_of
pairs_ended l ns i h = ap (λ x. sets l (2 * i) (pairs_of x)) (drop_of_length-le ns h)

module _ (sheet listing constants zeros : List ℕ) (e : length constants ≡ 2048) (z : length zeros ≡ 256)
    (below : (i : ℕ) → i < length constants → get_or constants i 0 < 256) where
  words_long : length (words_of constants) ≡ 256
  words_long = length-words_of constants ∙ ap (λ n. n / 8) e

  words_back : bytes_of (words_of constants) ≡ constants
  words_back = bytes_of-words_of constants (omega (arith, e)) below

  -- lowering reads no word that it has not written: of other words than the constants' it gives the same
  same-setup : Lower.wrong_setup sheet listing zeros unnamed ≡ Lower.wrong_setup sheet listing (words_of constants) unnamed
  same-setup = simp (z, words_long)

  pub same_answer : Lower.answer sheet listing zeros unnamed ≡ Lower.answer sheet listing (words_of constants) unnamed
  same_answer = ap (λ b. cond b Lower.refused_setup (right_answer sheet (length listing))) same-setup

  pub same-listing : Lower.listing_after sheet listing zeros unnamed ≡ Lower.listing_after sheet listing (words_of constants) unnamed
  same-listing = ap (λ b. cond b listing (sets listing 0 (lower_sheet sheet (length listing)).bytes)) same-setup

  pub same-origins : (origins : List ℕ) {a : Lowered.LowerAnswer} {k o : List ℕ} → a ≡ Lower.answer sheet listing zeros unnamed
      → k ≡ Lower.origins_after sheet listing zeros unnamed → o ≡ sets origins 0 (pairs_of (take a.count k))
      → o ≡ origins_over sheet listing (words_of constants) origins
  unfolding origins_over
  same-origins origins {a} {k} p t f =
      let names = ap (λ b. cond b unnamed (sets unnamed 0 (origins_of sheet (lower_sheet sheet (length listing)).index))) same-setup in
      f
      ∙ ap (λ a. sets origins 0 (pairs_of (take a.count k))) (p ∙ same_answer)
      ∙ ap (λ k. sets origins 0 (pairs_of (take (Lower.answer sheet listing (words_of constants) unnamed).count k))) (t ∙ names)

  -- as many words have room in the constants
  room : (a : Lowered.LowerAnswer) (k : List ℕ) → a.count ≤ 256 → 0 + length (bytes_of (take a.count k)) ≤ length constants
  room a k h = omega (arith, length-bytes_of (take a.count k), length-take a.count k, min-le_left a.count (length k), h, e)

  -- and the words that it has written, put over the constants, are the constants after it
  pub over : {a : Lowered.LowerAnswer} {k c : List ℕ} → a ≡ Lower.answer sheet listing zeros unnamed → k ≡ Lower.constants_after sheet listing zeros unnamed
      → c ≡ stored constants 0 (bytes_of (take a.count k)) → c ≡ bytes_of (Lower.constants_after sheet listing (words_of constants) unnamed)
  unfolding bytes_of
  over {a} {k} p t f =
      f
      ∙ stored_fits constants 0 (bytes_of (take a.count k)) (room a k (within sheet listing zeros unnamed p).count)
      ∙ ap (λ x. sets constants 0 (bytes_of (take x.count k))) p
      ∙ ap (λ k. sets constants 0 (bytes_of (take (Lower.answer sheet listing zeros unnamed).count k))) t
      ∙ either (Lower.wrong_setup sheet listing zeros unnamed)
      (λ w. simp (w, sym same-setup ∙ w) (sym words_back))
      (λ w.
      let consts = (lower_sheet sheet (length listing)).state.consts in
      let few : length consts ≤ 256 = subst (λ b. (cond b Lower.refused_setup (right_answer sheet (length listing))).count ≤ 256) w (within sheet listing zeros unnamed refl).count in
      simp (w, sym same-setup ∙ w)
      (ap (λ v. sets constants 0 (bytes_of v)) (sets_front zeros consts (length consts) refl (omega (arith, few, z)))
      ∙ ap (λ l. sets l 0 (bytes_of consts)) (sym words_back)
      ∙ sym (bytes_of-sets (words_of constants) consts (omega (arith, few, words_long)))))
