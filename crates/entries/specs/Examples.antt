-- Four sheets, lowered by the entry into slices of zeros: at one the condition about Half fails and the endings differ, so that it is
-- needed, in plain and in stable mode, while in mode 2 the endings are alike; at another all that the claim takes is given, and the condition
-- holds; at the third it holds since the play jumps over the Half; at the fourth an instruction changes all that it may.
use Rattle.std.specs.Prelude.{ℕ, ◌≡◌, true, false, List, get_or, replicate}
use Rattle.std.proofs.Math.Option.{some}
use Rattle.mir.specs.declared.ops.UniOp.{UniOp}
use Rattle.mir.specs.declared.ops.BinOp.{BinOp}
use Rattle.mir.specs.declared.records.Instruction.{Instruction}
use Rattle.mir.specs.Register.{re, im}
use Rattle.player_machine.specs.Machine.{Store, at}
use Rattle.lowering.specs.Realness.{is_real_reg}
use Rattle.leftovers.specs.Leftovers.{Lowered, sheet_of, real_at, standing, Mixing, Changes, EndAlike}
use Rattle.leftovers.specs.Examples.{room, zeros, touched, marked, compared}
use Rattle.entries.specs.Entries.{left, Given}

-- the slices lent: the listing's bytes, 256 words for constants, and 256 numbers for their origins
unfoldable pub bytes : List ℕ
bytes = replicate room 0

unfoldable pub words : List ℕ
words = replicate 256 0

unfoldable pub names : List ℕ
names = replicate 256 0

-- what `lower` leaves there
abbrev pub left_of : List ℕ → Lowered
left_of sheet = left sheet bytes words names

-- at point i of a sheet's play all that the claim takes is given, but for the condition, and the endings differ (theorem `needed`: `mixing`
-- at point 1; theorem `needed_stable`: the same in stable mode)
pub record Needed (sheet : List ℕ) (i : ℕ) : Type 0 where
  pub given : Given sheet bytes words names zeros i zeros touched
  pub differs : EndAlike (left_of sheet) i zeros touched → ⊥

-- at point i all that the claim takes is given, with the condition, of a change (theorem `met`: `clean` at point 2, which the Half follows)
pub record Met (sheet : List ℕ) (i : ℕ) : Type 0 where
  pub given : Given sheet bytes words names zeros i zeros touched
  pub unmixed : Mixing (left_of sheet) i zeros → ⊥
  pub other : zeros ≡ touched → ⊥

-- the instruction with index j is a Half of a register recorded as real into one recorded as complex, playing on from point i reaches it, and
-- the endings are alike of a change with which all that the claim takes is given (theorem `minded`: `mixing` in mode 2 at point 1)
pub record Minded (sheet : List ℕ) (i j : ℕ) : Type 0 where
  pub is_half : get_or (sheet_of sheet).instructions j Instruction.Nop ≡ Instruction.Uni UniOp.Half 1 0
  pub from_real : is_real_reg (real_at (sheet_of sheet) j) 0 ≡ true
  pub into_complex : is_real_reg (real_at (sheet_of sheet) j) 1 ≡ false
  pub reached : standing (left_of sheet) i zeros j ≡ some zeros
  pub met : Met sheet i
  pub alike : EndAlike (left_of sheet) i zeros touched

-- the instruction with index j is a Half of a register recorded as real into one recorded as complex, and does not stand in the way of
-- playing on from point i, where all that the claim takes is given (theorem `jumped_over`: `jumping` at point 1, and its Half)
pub record JumpedOver (sheet : List ℕ) (i j : ℕ) : Type 0 where
  pub is_half : get_or (sheet_of sheet).instructions j Instruction.Nop ≡ Instruction.Uni UniOp.Half 1 0
  pub from_real : is_real_reg (real_at (sheet_of sheet) j) 0 ≡ true
  pub into_complex : is_real_reg (real_at (sheet_of sheet) j) 1 ≡ false
  pub met : Met sheet i

-- the changes of the instruction at point i, an Equal, with `marked`: the imaginary half of its operand general 0, recorded as real, was not
-- zero and is cleared; its destination general 2 is another word then; and general 3, no register of its own, keeps a word that is not zero
-- (theorem `cleared`: `clearing` at point 1)
pub record Cleared (sheet : List ℕ) (i : ℕ) : Type 0 where
  pub is_equal : get_or (sheet_of sheet).instructions i Instruction.Nop ≡ Instruction.Bi BinOp.Equal 2 0 1
  pub from_real : is_real_reg (real_at (sheet_of sheet) i) 0 ≡ true
  pub changes : Changes (left_of sheet) i marked i marked compared
  pub cleared : (at marked (im 0) ≡ 0 → ⊥) × (at compared (im 0) ≡ 0)
  pub written : at marked (re 2) ≡ at compared (re 2) → ⊥
  pub kept : (at marked (re 3) ≡ 0 → ⊥) × (at compared (re 3) ≡ at marked (re 3))
