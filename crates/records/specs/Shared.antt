-- The kinds that sheets share, where they are read as a sheet's instruction over a listing's registers.
use Rattle.mir.specs.declared.records.Instruction.{Instruction}
use Rattle.mir.specs.declared.records.Work.{Work}
use Rattle.mir.specs.declared.records.Record.{Record}
use Rattle.mir.specs.Read.{Read, got, refused}

-- the record's work; of a sheet's own kinds, which a listing has not, any
abbrev pub work_of : Instruction → Work
work_of Instruction.Nop = Work.Mov 0 0
work_of (Instruction.Uni op dst s1) = Work.Uni op dst s1
work_of (Instruction.Bi op dst s1 s2) = Work.Bi op dst s1 s2
work_of (Instruction.Mov dst s1) = Work.Mov dst s1
work_of (Instruction.Load dst loc) = Work.Load dst loc
work_of (Instruction.Save src loc) = Work.Save src loc
work_of (Instruction.LoadConst dst idx) = Work.LoadConst dst idx
work_of (Instruction.Fused op dst a b c) = Work.Fused op dst a b c
work_of (Instruction.IfElse dst t f loc) = Work.IfElse dst t f loc
work_of (Instruction.LoadMath op dst s1 loc) = Work.Mov 0 0
work_of (Instruction.LoadConstMath op dst s1 idx) = Work.Mov 0 0
work_of (Instruction.Label l) = Work.Mov 0 0
work_of (Instruction.Branch l) = Work.Mov 0 0
work_of (Instruction.BranchIf c l e) = Work.Mov 0 0

abbrev pub as_record : Read Instruction → Read Record
as_record (got i) = got (Record.Work (work_of i))
as_record (refused n) = refused n
