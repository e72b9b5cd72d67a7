-- What examining a sheet's instructions tells.
use Rattle.std.specs.Prelude.{length}
use Rattle.mir.specs.declared.records.Instruction.{Instruction}
use Rattle.mir.specs.Decode.{Decoded}
use Rattle.sheet_text.specs.declared.printing.Seen.{Seen}

abbrev pub seen_of : Decoded Instruction → Seen
seen_of d = record { number = d.fault; index = length d.items }
