-- The pushes of mir.rs that complexify.rs calls, by their names there: each is one record of the listing.
use Rattle.std.specs.Prelude.{ℕ}
use Rattle.mir.specs.declared.ops.UniOp.{UniOp}
use Rattle.mir.specs.declared.ops.BinOp.{BinOp}
use Rattle.mir.specs.declared.ops.ArithOp.{ArithOp}
use Rattle.mir.specs.declared.ops.FusedOp.{FusedOp}
use Rattle.mir.specs.declared.records.Loc.{Loc}
use Rattle.mir.specs.declared.records.Work.{Work}

abbrev pub neg : ℕ → ℕ → Work
neg dst s1 = Work.Uni UniOp.Neg dst s1

abbrev pub not : ℕ → ℕ → Work
not dst s1 = Work.Uni UniOp.Not dst s1

abbrev pub abs : ℕ → ℕ → Work
abs dst s1 = Work.Uni UniOp.Abs dst s1

abbrev pub root : ℕ → ℕ → Work
root dst s1 = Work.Uni UniOp.Root dst s1

abbrev pub recip : ℕ → ℕ → Work
recip dst s1 = Work.Uni UniOp.Recip dst s1

abbrev pub half : ℕ → ℕ → Work
half dst s1 = Work.Uni UniOp.Half dst s1

abbrev pub sign : ℕ → ℕ → Work
sign dst s1 = Work.Uni UniOp.Sign dst s1

abbrev pub plus : ℕ → ℕ → ℕ → Work
plus dst s1 s2 = Work.Bi BinOp.Plus dst s1 s2

abbrev pub minus : ℕ → ℕ → ℕ → Work
minus dst s1 s2 = Work.Bi BinOp.Minus dst s1 s2

abbrev pub times : ℕ → ℕ → ℕ → Work
times dst s1 s2 = Work.Bi BinOp.Times dst s1 s2

abbrev pub divide : ℕ → ℕ → ℕ → Work
divide dst s1 s2 = Work.Bi BinOp.Divide dst s1 s2

abbrev pub lt : ℕ → ℕ → ℕ → Work
lt dst s1 s2 = Work.Bi BinOp.LittleThan dst s1 s2

abbrev pub eq : ℕ → ℕ → ℕ → Work
eq dst s1 s2 = Work.Bi BinOp.Equal dst s1 s2

abbrev pub and : ℕ → ℕ → ℕ → Work
and dst s1 s2 = Work.Bi BinOp.And dst s1 s2

abbrev pub xor : ℕ → ℕ → ℕ → Work
xor dst s1 s2 = Work.Bi BinOp.Xor dst s1 s2

abbrev pub fmov : ℕ → ℕ → Work
fmov dst s1 = Work.Mov dst s1

abbrev pub load_const : ℕ → ℕ → Work
load_const dst idx = Work.LoadConst dst idx

abbrev pub load : ℕ → Loc → Work
load dst p = Work.Load dst p

abbrev pub save : ℕ → Loc → Work
save src p = Work.Save src p

abbrev pub load_complex : ℕ → ℕ → Loc → Work
load_complex xd yd p = Work.LoadComplex xd yd p

abbrev pub save_complex : ℕ → ℕ → Loc → Work
save_complex xs ys p = Work.SaveComplex xs ys p

abbrev pub fused_mul_add : ℕ → ℕ → ℕ → ℕ → Work
fused_mul_add dst a b c = Work.Fused FusedOp.MulAdd dst a b c

abbrev pub ifelse : ℕ → ℕ → ℕ → Loc → Work
ifelse dst t f p = Work.IfElse dst t f p

abbrev pub plus_complex : ℕ → ℕ → ℕ → ℕ → ℕ → ℕ → Work
plus_complex xd yd x1 y1 x2 y2 = Work.ComplexBi ArithOp.Plus xd yd x1 y1 x2 y2

abbrev pub minus_complex : ℕ → ℕ → ℕ → ℕ → ℕ → ℕ → Work
minus_complex xd yd x1 y1 x2 y2 = Work.ComplexBi ArithOp.Minus xd yd x1 y1 x2 y2

abbrev pub times_complex : ℕ → ℕ → ℕ → ℕ → ℕ → ℕ → Work
times_complex xd yd x1 y1 x2 y2 = Work.ComplexBi ArithOp.Times xd yd x1 y1 x2 y2

abbrev pub divide_complex : ℕ → ℕ → ℕ → ℕ → ℕ → ℕ → Work
divide_complex xd yd x1 y1 x2 y2 = Work.ComplexBi ArithOp.Divide xd yd x1 y1 x2 y2
