-- Tidy sheets: each instruction does its row and no more, so that what a formula saves is the formula's value, each operation rounded once,
-- in the order written. What makes a sheet tidy is seen from the sheet alone.
use Rattle.std.specs.Prelude.{ℕ, ◌<◌, ◌≡◌, Bool, true, false, not, ◌&&◌, ◌||◌, List, [], ◌∷◌, length, get_or, eqb}
use Rattle.std.proofs.Math.Option.{Option, some}
use Rattle.mir.specs.declared.ops.UniOp.{UniOp}
use Rattle.mir.specs.declared.records.Loc.{Loc}
use Rattle.mir.specs.declared.records.Instruction.{Instruction}
use Rattle.mir.specs.Operation.{uni_number}
use Rattle.mir.specs.Takes.{one_of}
use Rattle.mir.specs.Place.{index}
use Rattle.sheet.specs.declared.setup.Mode.{Mode}
use Rattle.sheet.specs.Setup.{is_stable, is_minding}
use Rattle.player_machine.specs.Machine.{Store, place, going}
use Rattle.lowering.specs.declared.realness.Realness.{Realness}
use Rattle.lowering.specs.Realness.{is_real_reg, is_real_loc}
use Rattle.lowering.specs.Lower.{is_general, is_divide, by_first}
use Rattle.complexify.specs.Entry.{answer}
use Rattle.leftovers.specs.Leftovers.{Sheet, sheet_of, Lowered, real_at, play_on}
use Rattle.entries.specs.Entries.{left}
use Rattle.meaning.specs.Means.{Values, stands_by_rows}
use Rattle.meaning.specs.Preserved.{values_of, Holds, StandsWith}

-- ---- What a tidy sheet does not do, by numbers. ρ is the realness before the instruction; a sheet may either have Roots (`roots`) or
-- name Stack 2.

-- 1: one of these registers is Ret or Temp
abbrev pub special : List ℕ → Bool
special [] = false
special (r ∷ rs) = not (is_general r) || special rs

-- 2: a Root or RealRoot, which writes Stack 2, in a sheet without Roots; Stack 2 in a sheet with Roots
abbrev pub stray : Bool → UniOp → Bool
stray roots op = not roots && one_of uni_number op (UniOp.Root ∷ UniOp.RealRoot ∷ [])

abbrev pub is_stack2 : Loc → Bool
is_stack2 p = eqb (place p) (place (Loc.Stack 2))

-- 3: a Half between a real and a complex register, but in mode 2
abbrev pub differ : Bool → Bool → Bool
differ true x = not x
differ false x = x

abbrev pub mixed : Mode → UniOp → Bool → Bool → Bool
mixed m op d a = not (is_minding m) && (one_of uni_number op (UniOp.Half ∷ []) && differ d a)

-- The tests of an instruction, each with its number. 4: in plain mode, a LoadMath that divides a real register by a complex place.
unfoldable pub tidiness : Mode → Bool → Realness → Instruction → List (Bool × ℕ)
tidiness m roots ρ Instruction.Nop = []
tidiness m roots ρ (Instruction.Uni op d a) =
    (special (d ∷ a ∷ []), 1) ∷ (stray roots op, 2) ∷ (mixed m op (is_real_reg ρ d) (is_real_reg ρ a), 3) ∷ []
tidiness m roots ρ (Instruction.Bi op d a b) = (special (d ∷ a ∷ b ∷ []), 1) ∷ []
tidiness m roots ρ (Instruction.Mov d a) = (special (d ∷ a ∷ []), 1) ∷ []
tidiness m roots ρ (Instruction.Load d p) = (special (d ∷ []), 1) ∷ (roots && is_stack2 p, 2) ∷ []
tidiness m roots ρ (Instruction.Save a p) = (special (a ∷ []), 1) ∷ (roots && is_stack2 p, 2) ∷ []
tidiness m roots ρ (Instruction.LoadConst d idx) = (special (d ∷ []), 1) ∷ []
tidiness m roots ρ (Instruction.Fused op d a b c) = (special (d ∷ a ∷ b ∷ c ∷ []), 1) ∷ []
tidiness m roots ρ (Instruction.IfElse d a b p) = (special (d ∷ a ∷ b ∷ []), 1) ∷ (roots && is_stack2 p, 2) ∷ []
tidiness m roots ρ (Instruction.LoadMath op d a p) =
    (special (d ∷ a ∷ []), 1)
    ∷ (roots && is_stack2 p, 2)
    ∷ (not (is_stable m) && (is_divide op && (is_real_reg ρ a && not (is_real_loc ρ.places p))), 4)
    ∷ []
tidiness m roots ρ (Instruction.LoadConstMath op d a idx) = (special (d ∷ a ∷ []), 1) ∷ []
tidiness m roots ρ (Instruction.Label l) = []
tidiness m roots ρ (Instruction.Branch l) = []
tidiness m roots ρ (Instruction.BranchIf c l e) = (special (c ∷ []), 1) ∷ []

-- the number of the first that holds; 0: the instruction is tidy
abbrev pub untidy : Mode → Bool → Realness → Instruction → ℕ
untidy m roots ρ i = by_first (tidiness m roots ρ i) (λ n. n) 0

-- so is every instruction
abbrev pub TidySheet : Bool → Sheet → Type 0
TidySheet roots s =
    (j : ℕ) → j < length s.instructions → untidy s.mode roots (real_at s j) (get_or s.instructions j Instruction.Nop) ≡ 0

-- ---- the claim

-- every place, but Stack 2 where the sheet has Roots
abbrev pub Counted : Bool → Loc → Type 0
Counted roots p = (index p < 256) × (roots && is_stack2 p ≡ false)

-- the values with which a sheet stands before instruction j by its rows alone
abbrev pub by_rows : Sheet → Store → ℕ → Option Values
by_rows s σ₀ j = stands_by_rows s.mode s.constants going j s.instructions (values_of (real_at s 0) σ₀)

-- the play holds them in general registers and in the places that count, wherever the sheet stands and at the end
pub record TidyPreserves (roots : Bool) (l : Lowered) (σ₀ : Store) : Type 0 where
  pub points : (j : ℕ) (Y : Values) → by_rows l.sheet σ₀ j ≡ some Y → StandsWith 30 (Counted roots) l σ₀ j Y
  pub last : Values
  pub ends : by_rows l.sheet σ₀ (length l.sheet.instructions) ≡ some last
  pub ending : Holds 30 (Counted roots) last l.last (play_on l 0 σ₀).store

-- for every call of `lower` that answers 0 for a tidy sheet, and every store (theorem `tidied`)
abbrev pub Tidied : Type 0
Tidied =
    (sheet listing constants origins : List ℕ) (σ₀ : Store) (roots : Bool) → (answer sheet listing constants origins).number ≡ 0 → length σ₀ ≡ 1602
    → TidySheet roots (sheet_of sheet) → TidyPreserves roots (left sheet listing constants origins) σ₀
