-- The jump that bytes encode (document 01, Sheet; document 02, d). Every record of a listing is tested by the first pass; what follows reads
-- the length, the kind and the fields alone, and tests nothing again.
use Rattle.std.specs.Prelude.{ℕ, Bool, false, cond, List, eqb}
use Rattle.std.proofs.Math.Option.{Option, none, some}
use Rattle.mir.specs.declared.records.Record.{Record}
use Rattle.mir.specs.Field.{byte_at, u16_at}

-- 14 Label, 15 Branch, 16 Call: label; 17 BranchIf: condition register, label, is_else; any other kind encodes no jump
abbrev pub jump_of : ℕ → List ℕ → Option Record
jump_of kind s =
    cond (eqb kind 14) (some (Record.Label (byte_at s 4)))
    (cond (eqb kind 15) (some (Record.Branch (byte_at s 4)))
    (cond (eqb kind 16) (some (Record.Call (byte_at s 4)))
    (cond (eqb kind 17) (some (Record.BranchIf (byte_at s 4) (byte_at s 5) (eqb (byte_at s 6) 1)))
    none)))

abbrev pub jump_encoded : List ℕ → Option Record
jump_encoded s = jump_of (u16_at s 2) s

-- the jump of a record that was read
abbrev pub jump_in : Record → Option Record
jump_in (Record.Work w) = none
jump_in (Record.Label l) = some (Record.Label l)
jump_in (Record.Branch l) = some (Record.Branch l)
jump_in (Record.Call l) = some (Record.Call l)
jump_in (Record.BranchIf c l e) = some (Record.BranchIf c l e)

-- is there such a jump?
abbrev pub such : (Record → Bool) → Option Record → Bool
such p none = false
such p (some r) = p r
