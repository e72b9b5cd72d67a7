-- What a pass over a listing needs of a record: that it works on words, or how it directs the play and its label.
use Rattle.mir.specs.declared.records.Record.{Record}
use Rattle.mir.specs.Read.{Read, got, refused}
use Rattle.records.specs.declared.reader.Step.{Step}

abbrev pub step_of : Record → Step
step_of (Record.Work w) = Step.Work
step_of (Record.Label l) = Step.Label l
step_of (Record.Branch l) = Step.Branch l
step_of (Record.Call l) = Step.Call l
step_of (Record.BranchIf c l e) = Step.BranchIf l

abbrev pub step_from : Read Record → Read Step
step_from (got r) = got (step_of r)
step_from (refused n) = refused n
