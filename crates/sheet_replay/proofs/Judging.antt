-- The parts of a case, from what the functions that make them give. Assumes nothing.
use Prim.Native.Nat.{ℕ, ◌+◌, ◌*◌, ◌-◌, ◌≤◌}
use mathlib.Core.Bool.{Bool, not}
use mathlib.Core.List.{List, ◌++◌, map}
use mathlib.Core.Path.{◌≡◌, ap, ◌∙◌}
use native.Mathlib.Omega.{arith}
use borrow.Author.Tests.{eq-eqb}
use lib.ListN.{length, take, drop, replicate, length-map}
use lib.Dec.{eqb}
use Rattle.mir.specs.Encode.{flag_byte}
use Rattle.lowering.proofs.RecordStored.{both_stored}
use Rattle.complexify.specs.declared.entry.LowerAnswer.{LowerAnswer}
use Rattle.complexify.specs.Entry as Entry
use Rattle.words.specs.Bytes.{words_of, stored}
use Rattle.words.proofs.Stored.{stored_fits}
use Rattle.replay.specs.Numbers.{u32_at}
use Rattle.replay.proofs.Parts.{take-replicate}
use Rattle.sheet_replay.specs.Case.{Lent, lent_bytes, lent_words, lent_numbers, room, table_length, written, count, listing_at, constants_at, end, sheet, answered, listing_after, constants_after, numbers_agree, listing_expected, constants_expected, expected, differs}

module _ (s : List ℕ) {n m : ℕ} {l c : List ℕ} (hn : n ≡ room s) (hm : m ≡ table_length s) (bn : n ≤ 65537) (bm : m ≤ 257) where
  pub lent : l ≡ lent_bytes 65537 → c ≡ lent_words 257 → Lent s (take n l) (take m c)
  unfolding lent_bytes lent_words
  lent el ec =
      record {
        bytes = ap (take n) el ∙ (take-replicate n 65537 _ bn ∙ ap (λ (j : ℕ). replicate j 165) hn);
        words = ap (take m) ec ∙ (take-replicate m 257 _ bm ∙ ap (λ (j : ℕ). replicate j 11936128518282651045) hm);
      }

-- a part of the case by where it begins and how long it is
part_of : (s : List ℕ) {at stop k : ℕ} (n : ℕ) → at ≡ k → stop ≡ k + n → take (stop - at) (drop at s) ≡ take n (drop k s)
part_of s {at} {stop} {k} n e f = let m : stop - at ≡ n = omega arith in rw (m, e)

module _ (s : List ℕ) (a : LowerAnswer) where
  -- the last of the four numbers decides
  pub count-decides : {n i w c : ℕ}
      → n ≡ u32_at s 12
      → a.number ≡ n
      → i ≡ u32_at s 16
      → a.index ≡ i
      → w ≡ u32_at s 20
      → a.written ≡ w
      → c ≡ u32_at s 24
      → eqb a.count c ≡ numbers_agree s a
  unfolding numbers_agree
  count-decides hn en hi ei hw ew hc =
      rw (
        eq-eqb a.number (u32_at s 12) (en ∙ hn),
        eq-eqb a.index (u32_at s 16) (ei ∙ hi),
        eq-eqb a.written (u32_at s 20) (ew ∙ hw),
        hc,
      )

-- the marks as bytes
pub marks_made : (f d : List Bool) {x y : List ℕ} → length f ≡ 66 → length d ≡ 66 → x ≡ stored (replicate 132 0) 0 (map flag_byte f)
    → y ≡ stored x 66 (map flag_byte d) → y ≡ map flag_byte f ++ map flag_byte d
marks_made f d hf hd e g =
    let n = length-map f flag_byte in
    let m = length-map d flag_byte in
    g
    ∙ both_stored (replicate 132 0) (map flag_byte f) (map flag_byte d) 66 (n ∙ hf) (omega (arith, m, hd))
    (e ∙ stored_fits (replicate 132 0) 0 (map flag_byte f) (omega (arith, n, hf)))

-- what is made of lent slices is what is expected
module _ (s : List ℕ) {at row : ℕ} {l c : List ℕ} (ha : at ≡ listing_at s) (hr : row ≡ constants_at s) (p : Lent s l c) where
  pub bytes-made : {t : List ℕ} → t ≡ stored l 0 (take (row - at) (drop at s)) → t ≡ listing_expected s
  unfolding listing_expected
  bytes-made e = e ∙ (ap (λ (x : List ℕ). stored x 0 (take (row - at) (drop at s))) p.bytes ∙ ap (stored (lent_bytes (room s)) 0) (part_of s (written s) ha hr))

  pub words-made : {t : List ℕ} {stop : ℕ} → stop ≡ end s → t ≡ stored c 0 (words_of (take (stop - row) (drop row s))) → t ≡ constants_expected s
  unfolding constants_expected
  words-made {t} {stop} hs e =
      e
      ∙ (ap (λ (x : List ℕ). stored x 0 (words_of (take (stop - row) (drop row s)))) p.words
      ∙ ap (λ (x : List ℕ). stored (lent_words (table_length s)) 0 (words_of x)) (part_of s (8 * count s) hr hs))

-- what lowering gave is the case's answer, and its verdict the case's
module _ (s : List ℕ) {at : ℕ} {l₀ c₀ : List ℕ} (ha : at ≡ listing_at s) (p : Lent s l₀ c₀) where
  of-case : {A : Type 0} (f : List ℕ → List ℕ → List ℕ → A)
      → f (take (at - 256) (drop 256 s)) l₀ c₀ ≡ f (sheet s) (lent_bytes (room s)) (lent_words (table_length s))
  unfolding sheet
  of-case f =
      let e : at - 256 ≡ u32_at s 0 = omega arith in
      ap (λ (n : ℕ). f (take n (drop 256 s)) l₀ c₀) e
      ∙ (ap (λ (l : List ℕ). f (sheet s) l c₀) p.bytes ∙ ap (f (sheet s) (lent_bytes (room s))) p.words)

  pub judged : {a : LowerAnswer} {l c : List ℕ} {g : Bool}
      → a ≡ Entry.answer (take (at - 256) (drop 256 s)) l₀ c₀ lent_numbers
      → l ≡ Entry.listing_after (take (at - 256) (drop 256 s)) l₀ c₀ lent_numbers
      → c ≡ Entry.constants_after (take (at - 256) (drop 256 s)) l₀ c₀ lent_numbers
      → g ≡ expected s a l c
      → (a.number ≡ (answered s).number) × (not g ≡ differs s)
  unfolding answered listing_after constants_after differs
  judged {a} {l} {c} ea el ec eg =
      let x : a ≡ answered s = ea ∙ of-case (λ s l c. Entry.answer s l c lent_numbers) in
      let y : l ≡ listing_after s = el ∙ of-case (λ s l c. Entry.listing_after s l c lent_numbers) in
      let z : c ≡ constants_after s = ec ∙ of-case (λ s l c. Entry.constants_after s l c lent_numbers) in (
        ap (λ (b : LowerAnswer). b.number) x,
        ap not
            (eg
            ∙ (ap (λ (b : LowerAnswer). expected s b l c) x
            ∙ (ap (λ (m : List ℕ). expected s (answered s) m c) y ∙ ap (expected s (answered s) (listing_after s)) z))),
      )
