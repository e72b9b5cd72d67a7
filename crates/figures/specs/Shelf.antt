-- "How much shelf a sheet will take" (document 02, b): the figures, from a sheet alone.
use Rattle.std.specs.Prelude.{ℕ, suc, ◌+◌, ◌-◌, ◌*◌, not, cond, List, [], ◌∷◌, length, drop, eqb}
use Rattle.mir.specs.declared.records.Instruction.{Instruction}
use Rattle.mir.specs.declared.records.Record.{Record}
use Rattle.mir.specs.Encode.{encode_all}
use Rattle.sheet.specs.declared.setup.Mode.{Mode}
use Rattle.sheet.specs.Setup.{setup, constants_of}
use Rattle.sheet.specs.Instruction.{instructions}
use Rattle.player_machine.specs.Machine.{is_label, block}
use Rattle.player_machine.specs.Jumps.{tally, has}
use Rattle.player_machine.specs.Count.{is_call, block_records}
use Rattle.lowering.specs.Complexifier.{State}
use Rattle.lowering.specs.Rerun.{rerun}
use Rattle.lowering.specs.Labels.{Role, works, labels, branches, role, Standing, none_standing, misplaced, unequal, passed}
use Rattle.lowering.specs.Lower.{barred, tests, by_first, past, start_state}
use Rattle.figures.specs.declared.counting.Count.{Count}
use Rattle.figures.specs.declared.entry.Figures.{Figures}

-- "Where lowering with 65,536 bytes would refuse, the same number and index come back and no figures."
abbrev pub refusal : ℕ → ℕ → Figures
refusal number index = record { number = number; index = index; bytes = 0; constants = 0; records = 0 }

-- before the first instruction
abbrev pub nothing : Count
nothing = record { bytes = 0; records = 0; calls = 0; block = 0; branches = 0 }

-- the records of the block among these, from Label 1 to Branch 0, both included
unfoldable pub block_in : List Record → ℕ
unfolding is_label block
block_in rs = cond (has (is_label 1) rs) (block_records (block rs)) 0

-- a Branch or BranchIf of the sheet
abbrev pub branch_of : Role → ℕ
branch_of works = 0
branch_of (labels l) = 0
branch_of (branches l) = 1

-- the records of one instruction more
unfoldable pub counted : Count → Role → List Record → Count
unfolding block_in tally
counted c i rs =
    record {
      bytes = c.bytes + length (encode_all rs);
      records = c.records + length rs;
      calls = c.calls + tally is_call rs;
      block = c.block + block_in rs;
      branches = c.branches + branch_of i;
    }

-- "the records that a play from the first record would run": all records, less the block, which the play jumps over, and the block once
-- for each Call; with document 02, d) "for a sheet with a Branch or BranchIf the shelf figures of b) give that bound in place of the
-- records run"
abbrev pub run : Count → ℕ
run c = cond (eqb c.branches 0) (c.records - c.block + c.calls * c.block) (c.records + c.calls * c.block)

-- "The first refused record ends the work": lowering's tests, with 65,536 bytes, of one instruction after the other, and what refuses the
-- bytes behind them (0: nothing does)
unfoldable pub shelf_from : Mode → List Instruction → ℕ → List ℕ → Standing → ℕ → Count → State → Figures
unfolding role misplaced barred unequal passed counted
shelf_from mode [] fault rest b index c s =
    cond (eqb fault 0) (record { number = 0; index = index; bytes = c.bytes; constants = length s.consts; records = run c })
    (refusal fault index)
shelf_from mode (i ∷ is) fault rest b index c s =
    by_first (tests mode 65536 i b (past rest) c.bytes s) (λ number. refusal number index)
    (shelf_from mode is fault (past rest) (passed (role i) s.real b) (suc index) (counted c (role i) (rerun mode i s).records)
    (rerun mode i s).after)

-- "From a sheet alone"; 8 is tested first
unfoldable pub shelf : List ℕ → Figures
unfolding shelf_from
shelf sheet =
    let s = setup sheet in
    let rest = drop s.start sheet in
    let d = instructions s.count rest in
    cond (not (eqb s.number 0)) (refusal 8 0)
    (shelf_from s.mode d.items d.fault rest none_standing 0 nothing (start_state s.places (constants_of sheet s.count)))
