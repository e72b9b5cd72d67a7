-- In mode 2, and where no Half of a real register into a complex one stands, nothing is left open: the meaning holds whatever such a Half
-- would take.
use Rattle.std.specs.Prelude.{ℕ, ◌<◌, ◌≡◌, true, false, List, length, get_or}
use Rattle.std.proofs.Math.Option.{some}
use Rattle.mir.specs.declared.ops.UniOp.{UniOp}
use Rattle.mir.specs.declared.records.Instruction.{Instruction}
use Rattle.sheet.specs.Setup.{is_minding}
use Rattle.player_machine.specs.Machine.{Store}
use Rattle.lowering.specs.Realness.{is_real_reg}
use Rattle.complexify.specs.Entry.{answer}
use Rattle.leftovers.specs.Leftovers.{Sheet, sheet_of, real_at}
use Rattle.entries.specs.Entries.{left}
use Rattle.meaning.specs.Means.{Values}
use Rattle.meaning.specs.Preserved.{meaning, Every, StandsWith}

-- the mode is 2, or each Half of a register recorded as real goes into one recorded as real
abbrev pub Unmixed : Sheet → Type 0
Unmixed s =
    is_minding s.mode ≡ false → (j : ℕ) → j < length s.instructions → (d a : ℕ) → get_or s.instructions j Instruction.Nop ≡ Instruction.Uni UniOp.Half d a
    → is_real_reg (real_at s j) a ≡ true → is_real_reg (real_at s j) d ≡ true

-- (theorem `settled`)
abbrev pub Settled : Type 0
Settled =
    (sheet listing constants origins : List ℕ) (σ₀ : Store) → (answer sheet listing constants origins).number ≡ 0 → length σ₀ ≡ 1602 → Unmixed (sheet_of sheet)
    → (h : ℕ → ℕ) (j : ℕ) (X : Values) → meaning (sheet_of sheet) h σ₀ j ≡ some X → StandsWith 32 Every (left sheet listing constants origins) σ₀ j X
