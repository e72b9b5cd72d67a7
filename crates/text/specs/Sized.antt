-- Fields that fit their widths: a register and a label one byte, an index two.
use Rattle.std.specs.Prelude.{◌<◌}
use Rattle.mir.specs.declared.records.Loc.{Loc}
use Rattle.mir.specs.declared.records.Work.{Work}
use Rattle.mir.specs.declared.records.Record.{Record}
use Rattle.mir.specs.Place.{index}

abbrev pub SizedPlace : Loc → Type 0
SizedPlace loc = index loc < 65536

abbrev pub SizedWork : Work → Type 0
SizedWork (Work.Uni op dst s1) = (dst < 256) × (s1 < 256)
SizedWork (Work.Bi op dst s1 s2) = (dst < 256) × (s1 < 256) × (s2 < 256)
SizedWork (Work.Mov dst s1) = (dst < 256) × (s1 < 256)
SizedWork (Work.Load dst loc) = (dst < 256) × SizedPlace loc
SizedWork (Work.Save src loc) = (src < 256) × SizedPlace loc
SizedWork (Work.LoadConst dst idx) = (dst < 256) × (idx < 65536)
SizedWork (Work.Fused op dst a b c) = (dst < 256) × (a < 256) × (b < 256) × (c < 256)
SizedWork (Work.IfElse dst t f loc) = (dst < 256) × (t < 256) × (f < 256) × SizedPlace loc
SizedWork (Work.LoadComplex xd yd loc) = (xd < 256) × (yd < 256) × SizedPlace loc
SizedWork (Work.SaveComplex xs ys loc) = (xs < 256) × (ys < 256) × SizedPlace loc
SizedWork (Work.ComplexBi op xd yd x1 y1 x2 y2) = (xd < 256) × (yd < 256) × (x1 < 256) × (y1 < 256) × (x2 < 256) × (y2 < 256)

abbrev pub SizedRecord : Record → Type 0
SizedRecord (Record.Work w) = SizedWork w
SizedRecord (Record.Label l) = l < 256
SizedRecord (Record.Branch l) = l < 256
SizedRecord (Record.Call l) = l < 256
SizedRecord (Record.BranchIf c l e) = (c < 256) × (l < 256)
