-- The sheet of document 01 ("One sheet on paper"), and what is printed for it.
use Rattle.std.specs.Prelude.{◌≡◌, refl}
use Rattle.mir.specs.Register.{re, im}
use Rattle.mir.specs.Encode.{record_of}
use Rattle.mir.specs.Operation.{bin_ops}
use Rattle.mir.specs.Field.{takes_kind, place_at, save_place}
use Rattle.mir.specs.Decode.{decoded}
use Rattle.sheet.specs.Setup.{setup, constant_at}
use Rattle.sheet.specs.Instruction.{instruction_from}
use Rattle.records.specs.Record.{record_from}
use Rattle.lowering.specs.Lines as lines
use Rattle.lowering.specs.Complexifier as c
use Rattle.lowering.specs.Rerun.{rerun, rerun_bin}
use Rattle.lowering.specs.Lower.{lower_from, lower_sheet}
use Rattle.lowering.specs.Paper.{sheet}
use Rattle.text.specs.Text.{ascii, page}
use Rattle.listing.specs.Printed.{printed_for, printed}

pub paper : printed sheet
    ≡ ascii "constants 1\n0 4000000000000000\nlisting 5 41\nLoadConst G4 0\nLoadComplex G6 G7 Mem 3\nTimes G5 G4 G7\nTimes G4 G4 G6\nSaveComplex G4 G5 Mem 4\n"
unfolding printed_for lower_sheet setup constant_at decoded instruction_from record_from lower_from rerun rerun_bin c.then c.emit c.by_two c.load_const c.load_from c.save_to c.times lines.load_lines lines.save_lines lines.times_lines re im record_of bin_ops takes_kind place_at save_place page ascii
paper = refl
