-- The page of document 01's sheet: six lines, and 54 blank ones.
use Rattle.std.specs.Prelude.{ℕ, zero, suc, ◌≡◌, refl, List, [], ◌∷◌, ◌++◌}
use Rattle.mir.specs.declared.ops.BinOp.{BinOp}
use Rattle.mir.specs.declared.records.Loc.{Loc}
use Rattle.mir.specs.declared.records.Work.{Work}
use Rattle.mir.specs.declared.records.Record.{Record}
use Rattle.text.specs.Text.{ascii}
use Rattle.pages.specs.Pages.{row_line, blank_line, constant_row, record_row, rows, pages_text}

abbrev times : ℕ → List ℕ → List ℕ
times zero text = []
times (suc n) text = text ++ times n text

pub paper : pages_text
    (rows (0x4000_0000_0000_0000 ∷ [])
    (Record.Work (Work.LoadConst 4 0)
    ∷ Record.Work (Work.LoadComplex 6 7 (Loc.Mem 3))
    ∷ Record.Work (Work.Bi BinOp.Times 5 4 7)
    ∷ Record.Work (Work.Bi BinOp.Times 4 4 6)
    ∷ Record.Work (Work.SaveComplex 4 5 (Loc.Mem 4))
    ∷ []))
    ≡ ascii "    0 Constant         4000000000000000                                 \n"
    ++ ascii "    0 LoadConst        G4 0                                             \n"
    ++ ascii "    1 LoadComplex      G6 G7 Mem 3                                      \n"
    ++ ascii "    2 Times            G5 G4 G7                                         \n"
    ++ ascii "    3 Times            G4 G4 G6                                         \n"
    ++ ascii "    4 SaveComplex      G4 G5 Mem 4                                      \n"
    ++ times 54 (ascii "                                                                        \n")
unfolding row_line blank_line constant_row record_row ascii
paper = refl
