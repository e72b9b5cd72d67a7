-- The lines of `root`'s block before and behind what it computes by mode: `root_block m` is the first, m, and the last.
use Rattle.std.specs.Prelude.{List, [], ◌∷◌}
use Rattle.mir.specs.declared.records.Loc.{Loc}
use Rattle.mir.specs.declared.records.Work.{Work}
use Rattle.mir.specs.Register.{re, im, Ret, Temp, T0, T1}
use Rattle.lowering.specs.Pushes as mir

unfoldable pub root_mask : List Work
root_mask = mir.xor T0 T0 T0 ∷ mir.lt T0 T0 (re Temp) ∷ mir.save T0 (Loc.Stack 2) ∷ []

unfoldable pub root_halves : List Work
root_halves =
    mir.divide T1 (im Temp) T0
    ∷ mir.half T1 T1
    ∷ mir.eq (re Temp) T1 T1
    ∷ mir.and T1 T1 (re Temp)
    ∷ mir.ifelse (re Temp) T0 T1 (Loc.Stack 2)
    ∷ mir.ifelse (im Temp) T1 T0 (Loc.Stack 2)
    ∷ mir.sign T0 (re Temp)
    ∷ mir.xor (re Ret) (re Temp) T0
    ∷ mir.xor (im Ret) (im Temp) T0
    ∷ []
