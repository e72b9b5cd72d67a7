-- What a walk over the bytes of some records sees of each, and what holds of a count so far.
use Rattle.std.specs.Prelude.{ℕ, ◌≤◌, ◌≡◌, cond, List, length, ltb, eqb}
use Rattle.mir.specs.declared.records.Record.{Record}
use Rattle.mir.specs.Encode.{encode_all}
use Rattle.figures.specs.declared.counting.Count.{Count}
use Rattle.figures.specs.declared.counting.BlockPart.{BlockPart}
use Rattle.figures.specs.declared.counting.BlockStep.{BlockStep}
use Rattle.lowering.specs.Labels.{Role}
use Rattle.figures.specs.Shelf.{branch_of, counted}

-- by a record's kind: 1 for a Call
abbrev pub calls_of : ℕ → ℕ
calls_of kind = cond (eqb kind 16) 1 0

-- by kind and label: Label 1 opens the block, and the working records directly behind it are the block's
abbrev pub block_step : BlockPart → ℕ → ℕ → BlockStep
block_step BlockPart.Before kind label =
    cond (eqb kind 14) (cond (eqb label 1) (record { adds = 2; next = BlockPart.Inside }) (record { adds = 0; next = BlockPart.Before }))
    (record { adds = 0; next = BlockPart.Before })
block_step BlockPart.Inside kind label = cond (ltb kind 14) (record { adds = 1; next = BlockPart.Inside }) (record { adds = 0; next = BlockPart.Behind })
block_step BlockPart.Behind kind label = record { adds = 0; next = BlockPart.Behind }

-- bytes of records, no more than the stage has
pub record StagedBytes (bytes : List ℕ) : Type 0 where
  pub records : List Record
  pub same : bytes ≡ encode_all records
  pub short : length bytes ≤ 704

-- these bytes and n branches counted behind c: whatever records they are of, and whatever role has so many, those are counted
abbrev pub Counts : List ℕ → ℕ → Count → Count → Type 0
Counts bytes n c r = (i : Role) → n ≡ branch_of i → (rs : List Record) → bytes ≡ encode_all rs → r ≡ counted c i rs

-- a count of at most 65,536 bytes
pub record CountWithin (c : Count) : Type 0 where
  pub bytes : c.bytes ≤ 65536
  pub records : c.records ≤ c.bytes
  pub calls : c.calls ≤ c.records
  pub block : c.block ≤ c.records
  pub branches : c.branches ≤ c.records
