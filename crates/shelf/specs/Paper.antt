-- The sheet of document 01 ("One sheet on paper"): 41 bytes, 1 constant, and its 5 records are all run.
use Rattle.std.specs.Prelude.{◌≡◌, refl}
use Rattle.mir.specs.Register.{re, im}
use Rattle.mir.specs.Encode.{record_of}
use Rattle.mir.specs.Operation.{bin_ops}
use Rattle.mir.specs.Field.{takes_kind, place_at, save_place}
use Rattle.mir.specs.Decode.{decoded}
use Rattle.sheet.specs.Setup.{setup, constant_at}
use Rattle.sheet.specs.Instruction.{instruction_from}
use Rattle.lowering.specs.Lines as lines
use Rattle.lowering.specs.Complexifier as c
use Rattle.lowering.specs.Rerun.{rerun, rerun_bin}
use Rattle.lowering.specs.Paper.{sheet}
use Rattle.text.specs.Text.{ascii}
use Rattle.figures.specs.Shelf.{shelf}
use Rattle.shelf.specs.Printed.{printed}

pub paper : printed sheet ≡ ascii "bytes 41\nconstants 1\nrecords 5\n"
unfolding printed shelf setup constant_at decoded instruction_from rerun rerun_bin c.then c.emit c.by_two c.load_const c.load_from c.save_to c.times lines.load_lines lines.save_lines lines.times_lines re im record_of bin_ops takes_kind place_at save_place ascii
paper = refl
