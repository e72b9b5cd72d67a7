-- Looking ahead in a sheet whose instructions are all read sees their labels.
use Prim.Native.Nat.{ℕ, zero, suc, pred}
use mathlib.Core.Path.{◌≡◌, refl, sym, ap, ◌∙◌, subst}
use mathlib.Core.Bool.{Bool, false, ◌||◌}
use mathlib.Core.List.{List, [], ◌∷◌}
use native.Mathlib.Omega.{arith}
use lib.ListN.{drop}
use Rattle.mir.specs.declared.records.Instruction.{Instruction}
use Rattle.mir.specs.Read.{Read, got, refused}
use Rattle.mir.specs.Field.{u16_at}
use Rattle.mir.specs.Decode.{onto, decoded_from, decoded}
use Rattle.sheet.specs.Instruction.{instruction_from, instructions}
use Rattle.sheet.proofs.Limit.{cut-whole}
use Rattle.sheet.proofs.Ranges.{refused-by}
use Rattle.sheet.proofs.Reading.{whole}
use Rattle.lowering.specs.Labels.{role, sees, later}
use Rattle.lowering.specs.Lower.{past}
use Rattle.lowering.proofs.Ahead.{label_in, seen_first}

-- ---- the instructions of a sheet's bytes

-- all bytes are those of the instructions, one after the other
pub data Reads (count : ℕ) : List ℕ → List Instruction → Type 0 where
  end : Reads count [] []
  next : {s : List ℕ} {i : Instruction} {is : List Instruction} → instruction_from count s ≡ got i → Reads count (past s) is → Reads count s (i ∷ is)

reads_from : (count : ℕ) (s : List ℕ) (k : ℕ) → (decoded_from (instruction_from count) s k).fault ≡ 0
    → Reads count (drop k s) (decoded_from (instruction_from count) s k).items
unfolding decoded_from
reads_from count [] zero e = end
reads_from count [] (suc k) e = end
reads_from count (b ∷ s) (suc k) e = reads_from count s k e
reads_from count (b ∷ s) zero e =
    go (instruction_from count (b ∷ s)) refl e (reads_from count s (pred (u16_at (b ∷ s) 0)))
  where
    n : ℕ
    n = u16_at (b ∷ s) 0

    go : (r : Read Instruction) → instruction_from count (b ∷ s) ≡ r
        → (onto r (λ a. decoded_from (instruction_from count) s (pred (u16_at (b ∷ s) 0)))).fault ≡ 0
        → ((decoded_from (instruction_from count) s (pred (u16_at (b ∷ s) 0))).fault ≡ 0
        → Reads count (drop (pred (u16_at (b ∷ s) 0)) s) (decoded_from (instruction_from count) s (pred (u16_at (b ∷ s) 0))).items)
        → Reads count (b ∷ s) (onto r (λ a. decoded_from (instruction_from count) s (pred (u16_at (b ∷ s) 0)))).items
    go (refused x) q e ih = absurd (refused-by count (b ∷ s) (q ∙ ap refused e))
    go (got i) q e ih =
        let z = (whole count).sized (b ∷ s) i q in
        let h : u16_at (b ∷ s) 0 ≡ suc (pred (u16_at (b ∷ s) 0)) = omega (arith, z.least) in
        next q (subst (λ (x : ℕ). Reads count (drop x (b ∷ s)) (decoded_from (instruction_from count) s (pred (u16_at (b ∷ s) 0))).items) (sym h) (ih e))

reads_all : (count : ℕ) (s : List ℕ) → (decoded (instruction_from count) s).fault ≡ 0 → Reads count s (decoded (instruction_from count) s).items
unfolding decoded
reads_all count s e = reads_from count s 0 e

-- of an accepted sheet nothing was cut
pub reads : (count : ℕ) (s : List ℕ) → (instructions count s).fault ≡ 0 → Reads count s (instructions count s).items
reads count s e =
    let d = decoded (instruction_from count) s in
    let w = cut-whole 612 d e in
    subst (λ d. Reads count s d.items) (sym w) (reads_all count s (sym (ap (λ d. d.fault) w) ∙ e))

-- ---- what is seen of them

-- does Label l stand among instructions?
abbrev pub stands : ℕ → List Instruction → Bool
stands l [] = false
stands l (i ∷ is) = sees l (label_in (role i)) || stands l is

pub later_stands : (count l : ℕ) {s : List ℕ} {is : List Instruction} → Reads count s is → later l s ≡ stands l is
unfolding later decoded decoded_from
later_stands count l end = refl
later_stands count l (next {s} {i} {is} e r) =
    seen_first count l s i e ∙ ap (λ (q : Bool). sees l (label_in (role i)) || q) (later_stands count l r)
