-- The page of document 01's sheet.
use Rattle.std.specs.Prelude.{◌≡◌, refl, [], ◌∷◌}
use Rattle.mir.specs.declared.ops.BinOp.{BinOp}
use Rattle.mir.specs.declared.records.Loc.{Loc}
use Rattle.mir.specs.declared.records.Work.{Work}
use Rattle.mir.specs.declared.records.Record.{Record}
use Rattle.text.specs.Text.{ascii, page}

pub paper : page (0x4000_0000_0000_0000 ∷ [])
    (Record.Work (Work.LoadConst 4 0)
    ∷ Record.Work (Work.LoadComplex 6 7 (Loc.Mem 3))
    ∷ Record.Work (Work.Bi BinOp.Times 5 4 7)
    ∷ Record.Work (Work.Bi BinOp.Times 4 4 6)
    ∷ Record.Work (Work.SaveComplex 4 5 (Loc.Mem 4))
    ∷ [])
    41
    ≡ ascii "constants 1\n0 4000000000000000\nlisting 5 41\nLoadConst G4 0\nLoadComplex G6 G7 Mem 3\nTimes G5 G4 G7\nTimes G4 G4 G6\nSaveComplex G4 G5 Mem 4\n"
unfolding page ascii
paper = refl
