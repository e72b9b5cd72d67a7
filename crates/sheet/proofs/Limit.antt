-- A sheet's instructions up to the limit: one instruction on, none left, one too many; where nothing is refused all of them stand.
use Prim.Native.Nat.{ℕ, zero, suc, ◌-◌, ◌≤◌, ◌<◌}
use mathlib.Core.Path.{◌≡◌, refl, ap, ◌∙◌}
use mathlib.Core.Bool.{Bool, true, false, not, cond, ◌&&◌, ◌||◌}
use mathlib.Core.List.{List, [], ◌∷◌}
use native.Mathlib.Omega.{arith}
use borrow.Author.Tests.{ne_eqb, ltb-false}
use lib.ListN.{length, take, drop, length-take, length-drop}
use lib.Dec.{ltb, eqb, leb-zero, leb-suc-suc, leb-suc-zero, eqb-suc-suc, eqb-zero-suc}
use Rattle.mir.specs.declared.records.Instruction.{Instruction}
use Rattle.mir.specs.Read.{Read, got, refused}
use Rattle.mir.specs.Field.{u16_at}
use Rattle.mir.specs.Decode.{Decoded, ahead, decoded}
use Rattle.mir.proofs.Passing.{or_left}
use Rattle.mir.proofs.Decoding.{Here, Done, decoded-got, decoded-torn}
use Rattle.sheet.specs.Instruction.{instruction_from, beyond, cut, instructions_on}
use Rattle.sheet.proofs.Ranges.{refused-by}
use Rattle.sheet.proofs.Reading.{whole}

-- no instruction, and a number
abbrev pub nothing : ℕ → Decoded Instruction
nothing k = record { items = []; fault = k }

-- ---- the cut

cut_ahead : (n : ℕ) (i : Instruction) (d : Decoded Instruction) → cut (suc n) (ahead i d) ≡ ahead i (cut n d)
cut_ahead n i d = ap (λ t. cond t (record { items = i ∷ take n d.items; fault = 14 }) (ahead i d)) same ∙ by (beyond n d)
  where
    same : beyond (suc n) (ahead i d) ≡ beyond n d
    same =
        ap (λ t. t || (eqb (suc (length d.items)) (suc n) && not (eqb d.fault 0))) (leb-suc-suc (suc n) (length d.items))
        ∙ ap (λ t. ltb n (length d.items) || (t && not (eqb d.fault 0))) (eqb-suc-suc (length d.items) n)

    by : (b : Bool) → cond b (record { items = i ∷ take n d.items; fault = 14 }) (ahead i d)
        ≡ ahead i (cond b (record { items = take n d.items; fault = 14 }) d)
    by true = refl
    by false = refl

-- the first number stands where there is room for one more
cut_nothing : (n k : ℕ) → cut (suc n) (nothing k) ≡ nothing k
cut_nothing n k =
    ap (λ t. cond (t || (eqb 0 (suc n) && not (eqb k 0))) (nothing 14) (nothing k)) (leb-suc-zero (suc n))
    ∙ ap (λ t. cond (t && not (eqb k 0)) (nothing 14) (nothing k)) (eqb-zero-suc n)

cut-end : (n : ℕ) → cut n (nothing 0) ≡ nothing 0
cut-end zero = refl
cut-end (suc n) = cut_nothing n 0

-- no room: one more instruction, or a number, is 14
cut-more : (i : Instruction) (d : Decoded Instruction) → cut 0 (ahead i d) ≡ nothing 14
cut-more i d = ap (λ t. cond (t || (eqb (suc (length d.items)) 0 && not (eqb d.fault 0))) (nothing 14) (ahead i d)) (leb-suc-suc 0 (length d.items) ∙ leb-zero (length d.items))

cut_refused : (k : ℕ) → (k ≡ 0 → ⊥) → cut 0 (nothing k) ≡ nothing 14
cut_refused k z = ap (λ t. cond (not t) (nothing 14) (nothing k)) (ne_eqb k 0 z)

-- where nothing is refused nothing was cut
pub cut-whole : (n : ℕ) (d : Decoded Instruction) → (cut n d).fault ≡ 0 → cut n d ≡ d
cut-whole n d e = go (beyond n d) e
  where
    go : (b : Bool) → (cond b (record { items = take n d.items; fault = 14 }) d).fault ≡ 0
        → cond b (record { items = take n d.items; fault = 14 }) d ≡ d
    go true e = absurd (omega (arith, e))
    go false e = refl

-- never more than the limit
pub length_cut : (n : ℕ) (d : Decoded Instruction) → length (cut n d).items ≤ n
length_cut n d = go (beyond n d) refl
  where
    go : (b : Bool) → beyond n d ≡ b → length (cond b (record { items = take n d.items; fault = 14 }) d).items ≤ n
    go true e = let t = length-take n d.items in omega (arith, t)
    go false e = ltb-false n (length d.items) (or_left (ltb n (length d.items)) (eqb (length d.items) n && not (eqb d.fault 0)) e)

-- ---- the instructions from an index on

-- an index below the limit
pub still : {index : ℕ} → index ≤ 612 → (index ≡ 612 → ⊥) → index < 612
still h z = omega (arith, h, z)

module _ (count : ℕ) (s : List ℕ) (at : ℕ) where
  pub on-here : {index : ℕ} {i : Instruction} {next : ℕ} → index < 612 → Here (instruction_from count) s at i next
      → instructions_on index count (drop at s) ≡ ahead i (instructions_on (suc index) count (drop next s))
  on-here {index} {i} {next} l h =
      let d = decoded (instruction_from count) (drop next s) in
      let one : 612 - index ≡ suc (612 - suc index) = omega (arith, l) in
      ap (λ n. cut n (decoded (instruction_from count) (drop at s))) one
      ∙ ap (cut (suc (612 - suc index))) (λ j. record { items = h.same j; fault = h.sound j })
      ∙ cut_ahead (612 - suc index) i d

  done : {k : ℕ} → Done (instruction_from count) s at k → decoded (instruction_from count) (drop at s) ≡ nothing k
  done h = λ j. record { items = h.same j; fault = h.why j }

  pub on-done : {index k : ℕ} → index < 612 → Done (instruction_from count) s at k → instructions_on index count (drop at s) ≡ nothing k
  on-done {index} {k} l h =
      let one : 612 - index ≡ suc (612 - suc index) = omega (arith, l) in
      ap (λ n. cut n (decoded (instruction_from count) (drop at s))) one
      ∙ ap (cut (suc (612 - suc index))) (done h)
      ∙ cut_nothing (612 - suc index) k

  pub on-end : (index : ℕ) → Done (instruction_from count) s at 0 → instructions_on index count (drop at s) ≡ nothing 0
  on-end index h = ap (cut (612 - index)) (done h) ∙ cut-end (612 - index)

  -- 14, whatever stands there
  pub on-full : {index : ℕ} → index ≡ 612 → at < length s → instructions_on index count (drop at s) ≡ nothing 14
  on-full {index} e h = ap (λ n. cut n (decoded (instruction_from count) rest)) zeroth ∙ go (instruction_from count rest) refl
    where
      rest : List ℕ
      rest = drop at s

      zeroth : 612 - index ≡ 0
      zeroth = omega (arith, e)

      go : (r : Read Instruction) → instruction_from count (drop at s) ≡ r → cut 0 (decoded (instruction_from count) (drop at s)) ≡ nothing 14
      go (got i) q = ap (cut 0) (decoded-got (instruction_from count) (whole count) (drop at s) i q) ∙ cut-more i (decoded (instruction_from count) (drop (u16_at (drop at s) 0) (drop at s)))
      go (refused k) q =
          let g = length-drop at s in
          ap (cut 0) (decoded-torn (instruction_from count) (drop at s) k q (omega arith))
          ∙ cut_refused k (λ z. refused-by count (drop at s) (q ∙ ap refused z))
