-- Which records a listing can hold, as documents 01 and 02 limit them.
use Prim.Native.Nat.{ℕ, ◌≤◌, ◌<◌}
use mathlib.Core.Path.{◌≡◌}
use mathlib.Core.Bool.{true}
use mathlib.Core.List.{List}
use Rattle.mir.specs.declared.records.Work.{Work}
use Rattle.mir.specs.declared.records.Record.{Record}
use Rattle.mir.specs.Place.{index}
use Rattle.mir.proofs.IfRead.{Saved, Stacked}
use Rattle.mir.proofs.Decoding.{Each}
use Rattle.mir.specs.Takes.{takes_uni, takes_bin, takes_fused}

-- operations that are taken, registers to 65, places to 255, constants below the count of the lent table; any label
abbrev pub Holds : ℕ → Record → Type 0
Holds count (Record.Work (Work.Uni op dst s1)) = (takes_uni true op ≡ true) × (dst ≤ 65) × (s1 ≤ 65)
Holds count (Record.Work (Work.Bi op dst s1 s2)) = (takes_bin true op ≡ true) × (dst ≤ 65) × (s1 ≤ 65) × (s2 ≤ 65)
Holds count (Record.Work (Work.Mov dst s1)) = (dst ≤ 65) × (s1 ≤ 65)
Holds count (Record.Work (Work.Load dst loc)) = (dst ≤ 65) × (index loc ≤ 255)
Holds count (Record.Work (Work.Save src loc)) = (src ≤ 65) × Saved loc
Holds count (Record.Work (Work.LoadConst dst idx)) = (dst ≤ 65) × (idx < count) × (idx < 65536)
Holds count (Record.Work (Work.Fused op dst a b c)) = (takes_fused true op ≡ true) × (dst ≤ 65) × (a ≤ 65) × (b ≤ 65) × (c ≤ 65)
Holds count (Record.Work (Work.IfElse dst t f loc)) = (dst ≤ 65) × (t ≤ 65) × (f ≤ 65) × Stacked loc
Holds count (Record.Work (Work.LoadComplex xd yd loc)) = (xd ≤ 65) × (yd ≤ 65) × (index loc ≤ 255)
Holds count (Record.Work (Work.SaveComplex xs ys loc)) = (xs ≤ 65) × (ys ≤ 65) × Saved loc
Holds count (Record.Work (Work.ComplexBi op xd yd x1 y1 x2 y2)) =
    (xd ≤ 65) × (yd ≤ 65) × (x1 ≤ 65) × (y1 ≤ 65) × (x2 ≤ 65) × (y2 ≤ 65)
Holds count (Record.Label l) = Unit {0}
Holds count (Record.Branch l) = Unit {0}
Holds count (Record.Call l) = Unit {0}
Holds count (Record.BranchIf c l e) = c ≤ 65

abbrev pub AllHold : ℕ → List Record → Type 0
AllHold count rs = Each (Holds count) rs
