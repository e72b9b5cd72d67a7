-- How many records a play may reach (document 01, Player), and that no play reaches more.
use Rattle.std.specs.Prelude.{ℕ, ◌+◌, ◌*◌, ◌≤◌, Bool, true, false, List, length}
use Rattle.mir.specs.declared.records.Work.{Work}
use Rattle.mir.specs.declared.records.Record.{Record}
use Rattle.records.specs.Record.{records}
use Rattle.player_machine.specs.Machine.{Store, block}
use Rattle.player_machine.specs.Jumps.{tally}
use Rattle.player_machine.specs.Answer.{answer}

-- calls, to be counted
abbrev pub is_call : Record → Bool
is_call (Record.Work w) = false
is_call (Record.Label l) = false
is_call (Record.Branch l) = false
is_call (Record.Call l) = true
is_call (Record.BranchIf c l e) = false

-- the records of a block: Label 1, the working records and Branch 0
abbrev pub block_records : List Work → ℕ
block_records b = 2 + length b

-- "Records played are at most all records plus calls times block records."
abbrev pub most : List Record → ℕ
most rs = length rs + tally is_call rs * block_records (block rs)

-- every play of every listing, from any record on any store, reaches at most so many records (theorem `bound`, of `most`)
abbrev pub Bounds : (List Record → ℕ) → Type 0
Bounds count =
    (listing constants : List ℕ) (start : ℕ) (σ : Store)
    → (answer listing constants start σ).played ≤ count (records (length constants) listing).items
