-- Where a constant came from (document 02, m): for each constant that lowering gives back "the instruction that first appended it, or 65,535 for
-- one from the sheet".
use Rattle.std.specs.Prelude.{ℕ, suc, ◌-◌, List, [], ◌∷◌, ◌++◌, length, take, drop, replicate}
use Rattle.mir.specs.declared.records.Instruction.{Instruction}
use Rattle.sheet.specs.declared.setup.Mode.{Mode}
use Rattle.sheet.specs.Setup.{setup, constants_of}
use Rattle.sheet.specs.Instruction.{instructions}
use Rattle.lowering.specs.Complexifier.{State}
use Rattle.lowering.specs.Rerun.{rerun}
use Rattle.lowering.specs.Lower.{start_state}

-- 65,535, of a constant from the sheet
abbrev pub from_sheet : ℕ
from_sheet = 65535

-- the constants that an instruction appends: there are so many more after it
unfoldable pub appended : Mode → Instruction → State → ℕ
appended mode i s = length (rerun mode i s).after.consts - length s.consts

-- the origins of the constants that instructions append, of which the first has this index
unfoldable pub origins_from : Mode → ℕ → List Instruction → State → List ℕ
unfolding appended
origins_from mode index [] s = []
origins_from mode index (i ∷ is) s = replicate (appended mode i s) index ++ origins_from mode (suc index) is (rerun mode i s).after

-- those of a sheet's own constants and of its first n instructions, from a fresh `Complexifier`; "A refused instruction names none": the
-- finished ones stand before it
unfoldable pub origins_of : List ℕ → ℕ → List ℕ
unfolding origins_from
origins_of sheet n =
    let s = setup sheet in
    let d = instructions s.count (drop s.start sheet) in
    replicate s.count from_sheet
    ++ origins_from s.mode 0 (take n d.items) (start_state s.places (constants_of sheet s.count))
