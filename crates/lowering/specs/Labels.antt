-- The labels and branches of a sheet (document 02, d): 10, where one is misplaced, and 11, where the records at a label differ from those
-- at a branch to it.
use Rattle.std.specs.Prelude.{ℕ, Bool, true, false, not, cond, ◌&&◌, ◌||◌, List, [], ◌∷◌, length, ltb, eqb}
use Rattle.std.proofs.Math.Option.{Option, none, some}
use Rattle.mir.specs.declared.records.Instruction.{Instruction}
use Rattle.mir.specs.Length.{length_of}
use Rattle.mir.specs.Read.{Read, got, refuse}
use Rattle.mir.specs.Field.{byte_at, u16_at, takes_kind}
use Rattle.mir.specs.Decode.{decoded}
use Rattle.lowering.specs.declared.realness.Realness.{Realness}

-- what an instruction is to the order of play: it works, it is a label, or it branches to one
pub data Role : Type 0 where
  works : Role
  labels : ℕ → Role
  branches : ℕ → Role

unfoldable pub role : Instruction → Role
role Instruction.Nop = works
role (Instruction.Uni op d a) = works
role (Instruction.Bi op d a b) = works
role (Instruction.Mov d a) = works
role (Instruction.Load d p) = works
role (Instruction.Save a p) = works
role (Instruction.LoadConst d idx) = works
role (Instruction.Fused op d a b k) = works
role (Instruction.IfElse d a b p) = works
role (Instruction.LoadMath op d a p) = works
role (Instruction.LoadConstMath op d a idx) = works
role (Instruction.Label l) = labels l
role (Instruction.Branch l) = branches l
role (Instruction.BranchIf c l e) = branches l

-- a branch: its label, and the records held there
pub record Sent : Type 0 where
  pub label : ℕ
  pub real : Realness

-- the labels and the branches that stand before an instruction, the nearest first
pub record Standing : Type 0 where
  pub labels : List ℕ
  pub branches : List Sent

-- before the first instruction
abbrev pub none_standing : Standing
none_standing = record { labels = []; branches = [] }

-- ---- looking ahead

-- A record by its length: "Looking ahead for a label stops at the first torn record", one that earns 1. What is seen of it is the label,
-- where it is a Label.
unfoldable pub label_seen : List ℕ → Read (Option ℕ)
unfolding u16_at takes_kind length_of
label_seen s =
    refuse (ltb (length s) 4) 1
    (refuse (ltb (u16_at s 0) 4) 1
    (refuse (ltb (length s) (u16_at s 0)) 1
    (refuse (takes_kind false (u16_at s 2) && not (eqb (length_of (u16_at s 2)) (u16_at s 0))) 1
    (got (cond (eqb (u16_at s 2) 14) (some (byte_at s 4)) none)))))

-- is Label l seen there, and in any of several records?
abbrev pub sees : ℕ → Option ℕ → Bool
sees l none = false
sees l (some m) = eqb m l

abbrev pub any_sees : ℕ → List (Option ℕ) → Bool
any_sees l [] = false
any_sees l (o ∷ os) = sees l o || any_sees l os

-- does Label l stand in the sheet's bytes behind an instruction?
unfoldable pub later : ℕ → List ℕ → Bool
unfolding label_seen decoded
later l behind = any_sees l (decoded label_seen behind).items

-- does it stand before?
abbrev pub stands : ℕ → List ℕ → Bool
stands l [] = false
stands l (m ∷ ms) = eqb m l || stands l ms

-- ---- 10

-- "a branch with no such label later or one before it"
abbrev pub astray : ℕ → Standing → List ℕ → Bool
astray l b behind = not (later l behind) || stands l b.labels

-- 10 "at a branch with no such label later or one before it, at a label's second standing"
unfoldable pub misplaced : Role → Standing → List ℕ → Bool
unfolding later
misplaced works b behind = false
misplaced (labels l) b behind = stands l b.labels
misplaced (branches l) b behind = astray l b behind

-- ---- 11

-- equal flags, equal bytes
abbrev pub flag_same : Bool → Bool → Bool
flag_same true g = g
flag_same false g = not g

abbrev pub flags_same : List Bool → List Bool → Bool
flags_same [] [] = true
flags_same [] (g ∷ gs) = false
flags_same (f ∷ fs) [] = false
flags_same (f ∷ fs) (g ∷ gs) = flag_same f g && flags_same fs gs

abbrev pub bytes_same : List ℕ → List ℕ → Bool
bytes_same [] [] = true
bytes_same [] (y ∷ ys) = false
bytes_same (x ∷ xs) [] = false
bytes_same (x ∷ xs) (y ∷ ys) = eqb x y && bytes_same xs ys

-- "the records of all registers and places" are equal
abbrev pub same_records : Realness → Realness → Bool
same_records ρ ρ' = flags_same ρ.regs ρ'.regs && bytes_same ρ.places ρ'.places

-- a branch to l at which they are not
abbrev pub differs : ℕ → Realness → List Sent → Bool
differs l ρ [] = false
differs l ρ (x ∷ xs) = eqb x.label l && not (same_records x.real ρ) || differs l ρ xs

-- 11 "for unequal records, given at the label": "At each label, the records of all registers and places must equal those at every branch to
-- it"
unfoldable pub unequal : Role → Standing → Realness → Bool
unequal works b ρ = false
unequal (labels l) b ρ = differs l ρ b.branches
unequal (branches l) b ρ = false

-- ---- an instruction more

unfoldable pub passed : Role → Realness → Standing → Standing
passed works ρ b = b
passed (labels l) ρ b = record { labels = l ∷ b.labels; branches = b.branches }
passed (branches l) ρ b = record { labels = b.labels; branches = record { label = l; real = ρ } ∷ b.branches }
