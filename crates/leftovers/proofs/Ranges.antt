-- The instructions that are read from a sheet, one after the other, are within its limits.
use Prim.Native.Nat.{ℕ, zero, suc, pred}
use mathlib.Core.Bool.{Bool, true, false, cond}
use mathlib.Core.List.{List, [], ◌∷◌}
use lib.ListN.{take}
use Rattle.mir.specs.declared.records.Instruction.{Instruction}
use Rattle.mir.specs.Read.{Read, got, refused}
use Rattle.mir.specs.Field.{u16_at}
use Rattle.mir.specs.Decode.{Decoded, onto, decoded_from, decoded}
use Rattle.mir.proofs.IfRead.{IfRead, read, told}
use Rattle.sheet.specs.Instruction.{instruction_from, beyond, instructions}
use Rattle.sheet.proofs.Ranges.{InRange, one_in_range}
use Rattle.leftovers.proofs.Instructions.{AllIn}

pub all_in_range : (count : ℕ) (s : List ℕ) (k : ℕ) → AllIn count (decoded_from (instruction_from count) s k).items
unfolding decoded_from
all_in_range count [] k = tt
all_in_range count (b ∷ s) (suc k) = all_in_range count s k
all_in_range count (b ∷ s) zero =
    go (instruction_from count (b ∷ s)) (one_in_range count (b ∷ s)) (all_in_range count s (pred (u16_at (b ∷ s) 0)))
  where
    go : (r : Read Instruction) → IfRead (InRange count) r → AllIn count (decoded_from (instruction_from count) s (pred (u16_at (b ∷ s) 0))).items
        → AllIn count (onto r (λ a. decoded_from (instruction_from count) s (pred (u16_at (b ∷ s) 0)))).items
    go (got i) (read h) ih = (h, ih)
    go (refused (suc n)) told ih = tt
    go (refused zero) x4 ih = elim x4 [ ]

-- so are as many of them as a sheet may have
all_in_first : (count n : ℕ) (l : List Instruction) → AllIn count l → AllIn count (take n l)
all_in_first count zero l v = tt
all_in_first count (suc n) [] v = tt
all_in_first count (suc n) (i ∷ l) v = (v.0, all_in_first count n l v.1)

pub all_in_limit : (count : ℕ) (s : List ℕ) → AllIn count (instructions count s).items
unfolding decoded
all_in_limit count s = go (beyond 612 d)
  where
    d : Decoded Instruction
    d = decoded_from (instruction_from count) s 0

    go : (b : Bool) → AllIn count (cond b (record { items = take 612 (decoded_from (instruction_from count) s 0).items; fault = 14 }) (decoded_from (instruction_from count) s 0)).items
    go true = all_in_first count 612 (decoded_from (instruction_from count) s 0).items (all_in_range count s 0)
    go false = all_in_range count s 0
