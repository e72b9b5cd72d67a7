-- The instructions that are read name registers, places, constants and labels within a sheet's limits, and none is refused by 0.
use Prim.Native.Nat.{ℕ, suc, ◌≤◌, ◌<◌}
use mathlib.Core.Path.{◌≡◌}
use mathlib.Core.Bool.{true, false}
use mathlib.Core.List.{List}
use native.Mathlib.Omega.{arith}
use lib.Dec.{ltb, eqb}
use borrow.Author.Tests.{ltb-false}
use Rattle.mir.specs.declared.records.Loc.{Loc}
use Rattle.mir.specs.declared.records.Instruction.{Instruction}
use Rattle.mir.specs.Place.{index}
use Rattle.mir.specs.Operation.{arith_ops}
use Rattle.mir.specs.Takes.{takes_arith, takes_bin}
use Rattle.mir.specs.Read.{refused}
use Rattle.mir.specs.Field.{byte_at, bytes_at, u16_at, takes_kind}
use Rattle.mir.proofs.IfRead.{IfRead, read, told, not-zero, tested, parted, chosen, limited, counted, operation, place, head, Saved, Stacked}
use Rattle.mir.proofs.ByKind.{uni, bi, mov, load, saving, load-const, fused, if-else}
use Rattle.sheet.specs.Instruction.{fields_from, instruction_from}

-- registers, places, constants and labels within a sheet's limits
abbrev pub InRange : ℕ → Instruction → Type 0
InRange count Instruction.Nop = Unit {0}
InRange count (Instruction.Uni op d a) = (d < 32) × (a < 32)
InRange count (Instruction.Bi op d a b) = (d < 32) × (a < 32) × (b < 32) × (takes_bin false op ≡ true)
InRange count (Instruction.Mov d a) = (d < 32) × (a < 32)
InRange count (Instruction.Load d p) = (d < 32) × (index p < 256)
InRange count (Instruction.Save a p) = (a < 32) × (index p < 256) × Saved p
InRange count (Instruction.LoadConst d i) = (d < 32) × (i < count)
InRange count (Instruction.Fused op d a b c) = (d < 32) × (a < 32) × (b < 32) × (c < 32)
InRange count (Instruction.IfElse d a b p) = (d < 32) × (a < 32) × (b < 32) × (index p < 256) × Stacked p
InRange count (Instruction.LoadMath op d a p) = (d < 32) × (a < 32) × (index p < 256)
InRange count (Instruction.LoadConstMath op d a i) = (d < 32) × (a < 32) × (i < count)
InRange count (Instruction.Label l) = 2 < l
InRange count (Instruction.Branch l) = 2 < l
InRange count (Instruction.BranchIf c l e) = (c < 32) × (2 < l)

below : {n m : ℕ} → n ≤ m → n < suc m
below h = omega arith

saved_in : (p : Loc) → Saved p → index p < 256
saved_in (Loc.Stack n) h = below h
saved_in (Loc.Mem n) h = below h
saved_in (Loc.Param _) h = elim h [ ]

stacked_in : (p : Loc) → Stacked p → index p < 256
stacked_in (Loc.Stack n) h = below h
stacked_in (Loc.Mem _) h = elim h [ ]
stacked_in (Loc.Param _) h = elim h [ ]

-- a label of the sheet's own
own : (l : ℕ) → ltb l 3 ≡ false → 2 < l
own l e = let h = ltb-false l 3 e in omega arith

-- kind by kind
in-range : (count kind : ℕ) (s : List ℕ) → IfRead (InRange count) (fields_from count kind s)
unfolding fields_from
in-range count kind s =
    let b = byte_at s in
    chosen kind 0 (λ k. read tt)
    (chosen kind 1 (λ k. uni false s Instruction.Uni (λ op d a t x y. (below x, below y)))
    (chosen kind 2 (λ k. bi false s Instruction.Bi (λ op d a b t x y z. (below x, below y, below z, t)))
    (chosen kind 3 (λ k. mov false s Instruction.Mov (λ d a x y. (below x, below y)))
    (chosen kind 4 (λ k. load false s Instruction.Load (λ d p x q. (below x, below q)))
    (chosen kind 5 (λ k. saving false s Instruction.Save (λ a p x q. (below x, saved_in p q, q)))
    (chosen kind 6 (λ k. load-const false s Instruction.LoadConst count (λ d x c. (below x, c)))
    (chosen kind 7 (λ k. fused false s Instruction.Fused (λ op d a b c t x y z w. (below x, below y, below z, below w)))
    (chosen kind 8 (λ k. if-else false s Instruction.IfElse (λ d a b p x y z q. (below x, below y, below z, stacked_in p q, q)))
    (chosen kind 9
    (λ k. parted (operation takes_arith arith_ops (b 4)) (λ op t. limited 31 (bytes_at s 5 2)
    (λ l. parted (place s 7) (λ p q. read {a = Instruction.LoadMath op (b 5) (b 6) p} (below l.0, below l.1.0, below q)))))
    (chosen kind 10
    (λ k. parted (operation takes_arith arith_ops (b 4)) (λ op t. limited 31 (bytes_at s 5 2)
    (λ l. counted count (u16_at s 7)
    (λ c. read {a = Instruction.LoadConstMath op (b 5) (b 6) (u16_at s 7)} (below l.0, below l.1.0, c)))))
    (chosen kind 14 (λ k. tested (ltb (b 4) 3) 9 (λ e. read {a = Instruction.Label (b 4)} (own (b 4) e)))
    (chosen kind 15 (λ k. tested (ltb (b 4) 3) 9 (λ e. read {a = Instruction.Branch (b 4)} (own (b 4) e)))
    (chosen kind 17
    (λ k. limited 31 (bytes_at s 4 1) (λ l. tested (ltb (b 5) 3) 9 (λ e. tested (ltb 1 (b 6)) 9
    (λ f. read {a = Instruction.BranchIf (b 4) (b 5) (eqb (b 6) 1)} (below l.0, own (b 5) e)))))
    told)))))))))))))

pub one_in_range : (count : ℕ) (s : List ℕ) → IfRead (InRange count) (instruction_from count s)
unfolding instruction_from
one_in_range count s = parted (head (takes_kind false) s) (λ kind h. in-range count kind s)

pub refused-by : (count : ℕ) (s : List ℕ) → instruction_from count s ≡ refused 0 → ⊥
refused-by count s e = not-zero (one_in_range count s) e
