-- The marks of a listing's records, as the code gives them.
use Rattle.std.specs.Prelude.{List}
use Rattle.mir.specs.declared.records.Record.{Record}
use Rattle.marks.specs.Marks.{drawn_on, filled_by, registers}
use Rattle.marks_pass.specs.declared.Marks.{Marks}

-- a mark for each of the 66 registers: filled after the records, and drawn on before being filled
abbrev pub marks_of : List Record → Marks
marks_of rs = record { filled = registers (filled_by rs); drawn = registers (drawn_on rs) }
