-- Short listings, each with the registers that it draws on before they are filled: typed by hand from document 02's sentences, and computed.
use Rattle.std.specs.Prelude.{ℕ, suc, ◌≡◌, refl, Bool, true, false, List, [], ◌∷◌, map}
use Rattle.mir.specs.declared.ops.UniOp.{UniOp}
use Rattle.mir.specs.declared.ops.BinOp.{BinOp}
use Rattle.mir.specs.declared.records.Loc.{Loc}
use Rattle.mir.specs.declared.records.Work.{Work}
use Rattle.mir.specs.declared.records.Record.{Record}
use Rattle.player_machine.specs.Machine.{works, is_label, seek, block}
use Rattle.marks.specs.Marks.{step, scan, drawn_on, filled_by, registers}

-- the numbers of the marks that are set, the first of them being n
abbrev pub numbers : ℕ → List Bool → List ℕ
numbers n [] = []
numbers n (true ∷ ms) = n ∷ numbers (suc n) ms
numbers n (false ∷ ms) = numbers (suc n) ms

abbrev marked : List Record → List ℕ
marked rs = numbers 0 (registers (drawn_on rs))

-- records: a constant loaded, a register negated, a register saved to Mem 0
abbrev const : ℕ → Record
const dst = Record.Work (Work.LoadConst dst 0)

abbrev neg : ℕ → ℕ → Record
neg dst s1 = Record.Work (Work.Uni UniOp.Neg dst s1)

abbrev save : ℕ → Record
save src = Record.Work (Work.Save src (Loc.Mem 0))

-- a jump over a block that negates G4, and records after it
abbrev around : List Record → List Record
around rs = Record.Branch 2 ∷ Record.Label 1 ∷ neg 4 4 ∷ Record.Branch 0 ∷ Record.Label 2 ∷ rs

-- a listing, and the numbers of its marks
abbrev rows : List (List Record × List ℕ)
rows =
    -- a record draws before it fills
    (Record.Work (Work.Mov 4 4) ∷ save 4 ∷ [], 4 ∷ [])
    -- a constant and a place fill from no register, whatever they hold
    ∷ (const 4 ∷ save 4 ∷ [], [])
    ∷ (Record.Work (Work.LoadComplex 4 5 (Loc.Mem 0)) ∷ save 4 ∷ save 5 ∷ [], [])
    -- "a Xor of one register with itself draws on nothing", whatever its destination; of two registers it draws on both
    ∷ (Record.Work (Work.Bi BinOp.Xor 4 5 5) ∷ save 4 ∷ [], [])
    ∷ (Record.Work (Work.Bi BinOp.Xor 4 5 6) ∷ save 4 ∷ [], 5 ∷ 6 ∷ [])
    -- IfElse draws on both registers
    ∷ (Record.Work (Work.IfElse 4 5 65 (Loc.Stack 0)) ∷ [], 5 ∷ 65 ∷ [])
    -- "the record after a Branch to such a label is taken as reached from it"
    ∷ (Record.Branch 3 ∷ Record.Work (Work.SaveComplex 4 5 (Loc.Mem 1)) ∷ Record.Label 3 ∷ [], 4 ∷ 5 ∷ [])
    -- and so is the label after it, by the way from above
    ∷ (const 4 ∷ Record.Branch 3 ∷ const 5 ∷ Record.Label 3 ∷ save 4 ∷ save 5 ∷ [], 5 ∷ [])
    -- BranchIf draws on its condition
    ∷ (Record.BranchIf 4 3 false ∷ Record.Label 3 ∷ [], 4 ∷ [])
    -- filled on one of two ways in, and on both
    ∷ (const 4 ∷ Record.BranchIf 4 3 false ∷ const 5 ∷ Record.Label 3 ∷ save 5 ∷ [], 5 ∷ [])
    ∷ (
      const 4 ∷ Record.BranchIf 4 3 false ∷ const 5 ∷ Record.Branch 4 ∷ Record.Label 3 ∷ const 5 ∷ Record.Label 4 ∷ save 5 ∷ [],
      [],
    )
    -- "Each Call goes through the block with its own marks", wherever the block stands; nothing else does
    ∷ (around [], [])
    ∷ (around (const 4 ∷ Record.Call 1 ∷ save 4 ∷ save 5 ∷ []), 5 ∷ [])
    ∷ (around (Record.Call 1 ∷ []), 4 ∷ [])
    ∷ (const 4 ∷ Record.Call 1 ∷ around (Record.Call 1 ∷ save 6 ∷ []), 6 ∷ [])
    -- Label 2 has the one way by Branch 2
    ∷ (const 5 ∷ around (save 5 ∷ []), [])
    -- a play that comes to the block from above goes through it, and ends at its Branch 0
    ∷ (Record.Label 1 ∷ neg 4 4 ∷ Record.Branch 0 ∷ save 6 ∷ [], 4 ∷ [])
    ∷ []

pub holds : map (λ row. marked row.0) rows ≡ map (λ row. row.1) rows
unfolding step scan works is_label seek block
holds = refl

-- what is filled after the records: "Only a written word fills one", "only if it is filled on every way in"
pub fills_on_both : numbers 0 (registers (filled_by (const 4 ∷ Record.BranchIf 4 3 false ∷ const 5 ∷ Record.Label 3 ∷ neg 6 4 ∷ []))) ≡ 4 ∷ 6 ∷ []
unfolding step scan works is_label seek block
fills_on_both = refl
